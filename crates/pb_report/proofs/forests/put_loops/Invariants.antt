use Rattle.std.proofs.Common.{◌≡◌, ◌++◌, drop, map, flat_map, string_bytes}
use Rattle.pb_report.specs.ForestTexts.{loop_line}
use Rattle.pb_report.proofs.forests.put_loops.Given as goal

abbrev pub invariant-loop-name : goal.invariant-loop-name
invariant-loop-name l =
    string_bytes l.out ++ flat_map loop_line (map (λ n. n.now) (drop l.name-index l.names)) ≡ string_bytes
    l.initial.out ++ flat_map loop_line (map (λ n. n.now) l.names)
