use Rattle.std.proofs.Common.{◌≡◌, ◌++◌, drop, flat_map, string_bytes}
use Rattle.pb_cmd_diff.specs.Reports.{change_at}
use Rattle.pb_cmd_diff.proofs.lines.put_service.Given as goal

abbrev pub invariant-loop-effect : goal.invariant-loop-effect
invariant-loop-effect l =
    string_bytes l.out ++ flat_map (change_at l.old l.new l.number) (drop l.effect-index l.effects)
    ≡ string_bytes l.initial.out ++ flat_map (change_at l.old l.new l.number) l.effects
