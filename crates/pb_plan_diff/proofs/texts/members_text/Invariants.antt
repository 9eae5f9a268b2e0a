use Rattle.std.proofs.Common.{◌≡◌, ◌++◌, drop, flat_map, string_bytes}
use Rattle.pb_plan_diff.specs.Parts.{member_text}
use Rattle.pb_plan_diff.proofs.texts.members_text.Given as goal

abbrev pub invariant-loop-name : goal.invariant-loop-name
invariant-loop-name l =
    string_bytes l.text ++ flat_map (member_text l.plan l.numbers) (drop l.name-index l.names)
    ≡ string_bytes l.initial.text ++ flat_map (member_text l.plan l.numbers) l.names
