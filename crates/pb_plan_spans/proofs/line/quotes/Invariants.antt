use Rattle.std.proofs.Common.{◌≡◌, drop}
use Rattle.pb_plan_spans.specs.Lines.{quotes}
use Rattle.pb_plan_spans.proofs.line.quotes.Given as goal

-- no quotation mark occurs earlier
abbrev pub invariant-loop-b : goal.invariant-loop-b
invariant-loop-b l = quotes (drop l.b-index l.line) ≡ quotes l.line
