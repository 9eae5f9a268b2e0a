use Rattle.std.proofs.Common.{◌≡◌, ◌++◌, drop, flat_map, string_bytes}
use Rattle.pb_trace_svg.specs.SvgHops.{hop_element}
use Rattle.pb_trace_svg.proofs.svg_hops.put_hops.Given as goal

abbrev pub invariant-loop-mark : goal.invariant-loop-mark
invariant-loop-mark l =
    string_bytes l.out ++ flat_map (hop_element l.plan) (drop l.mark-index l.marks)
    ≡ string_bytes l.initial.out ++ flat_map (hop_element l.plan) l.marks
