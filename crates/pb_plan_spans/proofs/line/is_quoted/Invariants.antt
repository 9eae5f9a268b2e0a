use Rattle.std.proofs.Common.{◌≡◌, drop}
use Rattle.pb_plan_spans.specs.Lines.{is_quoted}
use Rattle.pb_plan_spans.proofs.line.is_quoted.Given as goal

-- only blanks come earlier
abbrev pub invariant-loop-i : goal.invariant-loop-i
invariant-loop-i l = is_quoted (drop l.i l.line) ≡ is_quoted l.line
