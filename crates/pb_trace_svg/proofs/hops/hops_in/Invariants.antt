use Rattle.std.proofs.Common.{◌≡◌, ◌++◌, drop, flat_map}
use Rattle.pb_trace_svg.specs.Hops.{hops_of}
use Rattle.pb_trace_svg.proofs.hops.hops_in.Given as goal

abbrev pub invariant-loop-line : goal.invariant-loop-line
invariant-loop-line l = l.hops.items ++ flat_map hops_of (drop l.line-index l.lines) ≡ flat_map hops_of l.lines
