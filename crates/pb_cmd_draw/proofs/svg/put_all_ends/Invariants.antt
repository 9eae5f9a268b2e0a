use Rattle.std.proofs.Common.{◌≡◌, ◌++◌, drop, flat_map, string_bytes}
use Rattle.pb_cmd_draw.specs.SvgLinks.{ends_element}
use Rattle.pb_cmd_draw.proofs.svg.put_all_ends.Given as goal

abbrev pub invariant-loop-mark : goal.invariant-loop-mark
invariant-loop-mark l =
    string_bytes l.out ++ flat_map (ends_element l.plan l.lists) (drop l.mark-index l.marks) ≡ string_bytes
    l.initial.out
    ++ flat_map (ends_element l.plan l.lists) l.marks
