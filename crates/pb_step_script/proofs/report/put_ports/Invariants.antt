use Rattle.std.proofs.Common.{◌≡◌, ◌++◌, map, drop, flat_map, string_bytes}
use Rattle.pb_step_script.specs.Counts.{port_line}
use Rattle.pb_step_script.proofs.report.put_ports.Given as goal

abbrev pub invariant-loop-name : goal.invariant-loop-name
invariant-loop-name l =
    string_bytes l.out ++ flat_map (port_line l.plan l.tallies)
    (map (λ n. (n.0.now, n.1)) (drop l.name-index l.ports)) ≡ string_bytes l.initial.out
    ++ flat_map (port_line l.plan l.tallies) (map (λ n. (n.0.now, n.1)) l.ports)
