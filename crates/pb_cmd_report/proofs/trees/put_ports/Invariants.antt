use Rattle.std.proofs.Common.{◌≡◌, ◌++◌, drop, flat_map, string_bytes}
use Rattle.pb_cmd_report.specs.Trees.{port_row}
use Rattle.pb_cmd_report.proofs.trees.put_ports.Given as goal

abbrev pub invariant-loop-place : goal.invariant-loop-place
invariant-loop-place l =
    string_bytes l.out ++ flat_map (port_row l.plan l.bridge l.machine) (drop l.place l.machine.ports) ≡ string_bytes
    l.initial.out ++ flat_map (port_row l.plan l.bridge l.machine) l.machine.ports
