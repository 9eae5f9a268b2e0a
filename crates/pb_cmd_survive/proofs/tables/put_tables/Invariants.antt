use Rattle.std.proofs.Common.{◌≡◌, ◌++◌, drop, flat_map, string_bytes}
use Rattle.pb_cmd_survive.specs.AcceptedTexts.{impact_tables, accept_tables}
use Rattle.pb_cmd_survive.proofs.tables.put_tables.Given as goal

abbrev pub invariant-loop-impact : goal.invariant-loop-impact
invariant-loop-impact l =
    string_bytes l.out ++ flat_map (impact_tables l.plan l.criteria l.base) (drop l.impact-index l.impacts)
    ≡ string_bytes l.initial.out ++ accept_tables l.plan l.criteria l.base l.impacts
