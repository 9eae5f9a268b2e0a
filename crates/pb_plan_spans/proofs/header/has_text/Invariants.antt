use Rattle.std.proofs.Common.{◌≡◌, drop}
use Rattle.pb_plan_spans.specs.Lines.{has_text}
use Rattle.pb_plan_spans.proofs.header.has_text.Given as goal

-- no text of several lines begins earlier
abbrev pub invariant-loop-i : goal.invariant-loop-i
invariant-loop-i l = has_text (drop l.i l.file) ≡ has_text l.file
