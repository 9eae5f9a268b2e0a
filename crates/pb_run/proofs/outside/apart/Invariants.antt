use Rattle.std.proofs.Common.{◌≡◌, ◌+◌, ◌≤◌, ◌++◌, map, vec_len, vec_capacity}
use Rattle.std.specs.Vec.Iter.{into_iter_items, into_iter_len}
use Rattle.pb_run.proofs.outside.apart.Given as goal

abbrev pub invariant-loop-worker : goal.invariant-loop-worker
invariant-loop-worker g l = record {
  ports : l.ports.items ++ map (λ w. w.port) (into_iter_items l.worker-iterator) ≡ map (λ w. w.port)
      (into_iter_items l.initial.worker-iterator);
  accesses : l.accesses.items ++ map (λ w. w.access) (into_iter_items l.worker-iterator) ≡ map (λ w. w.access)
      (into_iter_items l.initial.worker-iterator);
  lasts : l.lasts.items ++ map (λ w. w.access.book.last) (into_iter_items l.worker-iterator) ≡ map
      (λ w. w.access.book.last) (into_iter_items l.initial.worker-iterator);
  room : (vec_len l.ports + into_iter_len l.worker-iterator ≤ vec_capacity l.ports)
      × (vec_len l.accesses + into_iter_len l.worker-iterator ≤ vec_capacity l.accesses)
      × (vec_len l.lasts + into_iter_len l.worker-iterator ≤ vec_capacity l.lasts);
}
