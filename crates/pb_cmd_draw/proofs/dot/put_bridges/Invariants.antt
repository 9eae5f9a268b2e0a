use Rattle.std.proofs.Common.{◌≡◌, ◌++◌, drop, flat_map, string_bytes}
use Rattle.pb_cmd_draw.specs.Dot.{bridge_node}
use Rattle.pb_cmd_draw.proofs.dot.put_bridges.Given as goal

abbrev pub invariant-loop-mark : goal.invariant-loop-mark
invariant-loop-mark l =
    string_bytes l.out ++ flat_map (bridge_node l.plan) (drop l.mark-index l.marks) ≡ string_bytes l.initial.out
    ++ flat_map (bridge_node l.plan) l.marks
