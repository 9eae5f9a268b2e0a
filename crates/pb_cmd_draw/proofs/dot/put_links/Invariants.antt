use Rattle.std.proofs.Common.{◌≡◌, ◌++◌, drop, flat_map, string_bytes}
use Rattle.pb_cmd_draw.specs.Dot.{link_edge}
use Rattle.pb_cmd_draw.proofs.dot.put_links.Given as goal

abbrev pub invariant-loop-mark : goal.invariant-loop-mark
invariant-loop-mark l =
    string_bytes l.out ++ flat_map (link_edge l.plan l.lists) (drop l.mark-index l.marks) ≡ string_bytes l.initial.out
    ++ flat_map (link_edge l.plan l.lists) l.marks
