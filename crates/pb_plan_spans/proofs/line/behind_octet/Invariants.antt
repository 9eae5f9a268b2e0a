use Rattle.std.proofs.Common.{◌≡◌, drop}
use Rattle.pb_plan_spans.specs.Lines.{squeezed}
use Rattle.pb_plan_spans.proofs.line.behind_octet.Given as goal

-- only blanks come earlier
abbrev pub invariant-loop-i : goal.invariant-loop-i
invariant-loop-i l = squeezed (drop l.i l.line) ≡ squeezed l.line
