use Rattle.std.proofs.Common.{◌≡◌, drop}
use Rattle.pb_plan_spans.specs.Lines.{squeezed}
use Rattle.pb_plan_spans.proofs.line.is_empty.Given as goal

-- only blanks come earlier
abbrev pub invariant-loop-b : goal.invariant-loop-b
invariant-loop-b l = squeezed (drop l.b-index l.line) ≡ squeezed l.line
