use Rattle.std.proofs.Common.{◌≡◌, ◌++◌, drop, flat_map, string_bytes}
use Rattle.pb_cmd_survive.specs.Reports.{impact_text}
use Rattle.pb_cmd_survive.proofs.report.put_impacts.Given as goal

abbrev pub invariant-loop-impact : goal.invariant-loop-impact
invariant-loop-impact l =
    string_bytes l.out ++ flat_map (impact_text l.plan l.criteria l.acceptances l.base) (drop l.impact-index l.impacts)
    ≡ string_bytes l.initial.out ++ flat_map (impact_text l.plan l.criteria l.acceptances l.base) l.impacts
