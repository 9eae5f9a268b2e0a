use Rattle.std.proofs.Common.{◌≡◌, ◌++◌, drop, flat_map, string_bytes}
use Rattle.pb_trace_svg.specs.SvgHops.{way_element}
use Rattle.pb_trace_svg.proofs.svg_hops.put_ways.Given as goal

abbrev pub invariant-loop-mark : goal.invariant-loop-mark
invariant-loop-mark l =
    string_bytes l.out ++ flat_map (way_element l.links) (drop l.mark-index l.marks) ≡ string_bytes l.initial.out
    ++ flat_map (way_element l.links) l.marks
