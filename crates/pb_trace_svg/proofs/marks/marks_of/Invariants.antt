use Rattle.std.proofs.Common.{take}
use Rattle.pb_trace_svg.specs.Marks.{AreMarksOf}
use Rattle.pb_trace_svg.proofs.marks.marks_of.Given as goal

-- the hops so far have their marks
abbrev pub invariant-loop-hop : goal.invariant-loop-hop
invariant-loop-hop l = AreMarksOf (take l.hop-index l.hops) l.marks.items
