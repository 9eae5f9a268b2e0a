use Rattle.std.proofs.Common.{◌≡◌, ◌+◌, ◌≤◌, ◌++◌, [], All, map, vec_len, vec_capacity}
use Rattle.std.specs.VecDeque.{deque_len}
use Rattle.std.specs.Vec.Iter.{into_iter_items, into_iter_len}
use Rattle.pb_run.specs.Gifts.{given_access}
use Rattle.pb_workers.specs.Workers.{IsPortKept}
use Rattle.pb_workers.specs.declared.access.Last.TheVariants.{More}
use Rattle.pb_run.proofs.outside.attended.Given as goal

abbrev pub invariant-loop-port : goal.invariant-loop-port
invariant-loop-port g l = record {
  ports : map (λ w. w.was.value) l.workers.items
      ++ into_iter_items l.port-iterator ≡ into_iter_items l.initial.port-iterator;
  ports_now : map (λ w. w.port) l.workers.items
      ++ into_iter_items l.port-iterator ≡ into_iter_items l.initial.port-iterator;
  gifts : map (λ w. given_access w.access) l.workers.items ++ map given_access l.accesses.items ≡ map given_access
      l.initial.accesses.items;
  fresh : All (λ d. (d.place.steps ≡ []) × (d.book.last ≡ More)) l.accesses.items;
  keeps : All (IsPortKept g.P.Port) l.workers.items;
  count : deque_len l.accesses ≡ into_iter_len l.port-iterator;
  room : vec_len l.workers + into_iter_len l.port-iterator ≤ vec_capacity l.workers;
}
