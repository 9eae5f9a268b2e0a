use Rattle.std.proofs.Common.{◌≡◌, ◌++◌, drop, flat_map, string_bytes}
use Rattle.pb_cmd_survive.specs.AcceptedTexts.{stale_line, stale_text}
use Rattle.pb_cmd_survive.proofs.stale.put_stale.Given as goal

abbrev pub invariant-loop-acceptance : goal.invariant-loop-acceptance
invariant-loop-acceptance l =
    string_bytes l.out ++ flat_map (stale_line l.plan l.criteria l.base l.impacts)
    (drop l.acceptance-index l.acceptances)
    ≡ string_bytes l.initial.out ++ stale_text l.plan l.criteria l.acceptances l.base l.impacts
