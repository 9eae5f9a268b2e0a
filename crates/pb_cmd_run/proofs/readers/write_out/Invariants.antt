use Rattle.std.proofs.Common.{map}
use Rattle.pb_workers.specs.Ports.{port_frames}
use Rattle.pb_cmd_run.specs.Unsent.{HaveGoneOn}
use Rattle.pb_cmd_run.proofs.readers.write_out.Given as goal

abbrev pub invariant-loop : goal.invariant-loop
invariant-loop g l =
    HaveGoneOn (map (port_frames g.P.Port) l.initial.ports) (map (port_frames g.P.Port) l.ports)
