use Rattle.std.proofs.Common.{◌≡◌, ◌++◌, drop, flat_map, string_bytes}
use Rattle.pb_cmd_diff.specs.Reports.{convergence_line}
use Rattle.pb_cmd_diff.proofs.report.put_convergences.Given as goal

abbrev pub invariant-loop-effect : goal.invariant-loop-effect
invariant-loop-effect l =
    string_bytes l.out ++ flat_map (convergence_line l.old l.new) (drop l.effect-index l.effects)
    ≡ string_bytes l.initial.out ++ flat_map (convergence_line l.old l.new) l.effects
