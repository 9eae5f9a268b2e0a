use Rattle.std.proofs.Common.{◌≡◌, ◌+◌, ◌++◌, length, map, drop, vec_len}
use Rattle.std.specs.Vec.Iter.{into_iter_items}
use Rattle.pb_cmd_run.specs.AnyPorts.{of_file}
use Rattle.pb_cmd_run.specs.Carried.{AreClosed, FileOctets}
use Rattle.pb_cmd_run.specs.Unsent.{waiting_at}
use Rattle.pb_cmd_run.proofs.rest.close_all.Given as goal

abbrev pub invariant-loop-watched : goal.invariant-loop-watched
invariant-loop-watched g l = record {
  count : vec_len l.rests ≡ length l.yielded;
  both : vec_len l.rests + length (into_iter_items l.watched-iterator) ≡ length l.paths;
  rests : map (λ rest. rest.unsent.items) l.rests.items
      ++ map (λ w. waiting_at g.O.FilePort.Port.waiting w.port) (into_iter_items l.watched-iterator)
      ≡ map (λ w. waiting_at g.O.FilePort.Port.waiting w.port) (into_iter_items l.initial.watched-iterator);
  closed : (end : FileOctets)
      → AreClosed (g.O.Openings.holds l.opener) end
      (map (λ w. of_file g.O.FilePort.Port.output w.port) (into_iter_items l.watched-iterator))
      (drop (vec_len l.rests) l.paths)
      → AreClosed (g.O.Openings.holds l.initial.opener) end
      (map (λ w. of_file g.O.FilePort.Port.output w.port) (into_iter_items l.initial.watched-iterator)) l.paths;
}
