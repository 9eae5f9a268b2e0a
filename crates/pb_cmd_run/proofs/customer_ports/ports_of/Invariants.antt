use Rattle.std.proofs.Common.{◌≡◌, ◌++◌, [], All, length, map, is_some, vec_len}
use Rattle.std.specs.Vec.Iter.{into_iter_items}
use Rattle.pb_run_ports.specs.Opened.{octets_at, shown}
use Rattle.pb_cmd_run.specs.AnyPorts.{of_file}
use Rattle.pb_cmd_run.specs.Carried.{frames_in, started}
use Rattle.pb_cmd_run.specs.Scripted.{script_at}
use Rattle.pb_cmd_run.specs.Unsent.{waiting_at}
use Rattle.pb_cmd_run.proofs.customer_ports.ports_of.Given as goal

abbrev pub invariant-loop-port : goal.invariant-loop-port
invariant-loop-port g l = record {
  count : vec_len l.ports ≡ length l.yielded;
  scripts : map (λ w. script_at g.O.FilePort.Port.script w.port) l.ports.items
      ++ map (λ port. (shown port).frames) (into_iter_items l.port-iterator)
      ≡ map (λ port. (shown port).frames) (into_iter_items l.initial.port-iterator);
  unread : map (λ w. of_file g.O.FilePort.Port.unread w.port) l.ports.items
      ++ map (λ port. frames_in (octets_at g.O.Openings.unread port)) (into_iter_items l.port-iterator)
      ≡ map (λ port. frames_in (octets_at g.O.Openings.unread port)) (into_iter_items l.initial.port-iterator);
  outputs : map (λ w. of_file g.O.FilePort.Port.output w.port) l.ports.items
      ++ map (λ port. started (is_some (shown port).write) g.O.RunFiles.reports) (into_iter_items l.port-iterator)
      ≡ map (λ port. started (is_some (shown port).write) g.O.RunFiles.reports)
      (into_iter_items l.initial.port-iterator);
  fresh : All (λ w. waiting_at g.O.FilePort.Port.waiting w.port ≡ []) l.ports.items;
}
