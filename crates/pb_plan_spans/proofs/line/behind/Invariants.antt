use Rattle.std.proofs.Common.{◌≡◌, drop}
use Rattle.pb_plan_spans.specs.Lines.{squeezed}
use Rattle.pb_plan_spans.specs.Stripping.{behind}
use Rattle.pb_plan_spans.proofs.line.behind.Given as goal

-- the rest of the line follows the part of the text that was found
abbrev pub invariant-loop-octet : goal.invariant-loop-octet
invariant-loop-octet l = behind (drop l.octet-index l.text) (squeezed l.rest) ≡ behind l.text (squeezed l.line)
