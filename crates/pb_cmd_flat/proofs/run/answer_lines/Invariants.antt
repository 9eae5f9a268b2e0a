use Rattle.std.proofs.Common.{◌≡◌, [], true}
use Rattle.pb_lines.specs.Reader.{held, limit_of}
use Rattle.pb_cmd_flat.specs.Progress.{Progress}
use Rattle.pb_cmd_flat.specs.Receipts.{receipts}
use Rattle.pb_cmd_flat.specs.Switches.{IsFlatPast}
use Rattle.pb_cmd_flat.proofs.run.answer_lines.Given as goal

abbrev pub invariant-loop-number : goal.invariant-loop-number
invariant-loop-number g l = record {
  progress : Progress l.limit l.ports l.number (g.R.Read.remaining l.fn.reader) (held l.lines)
      (g.R.Read.remaining l.reader)
      (g.W.Write.contents l.fn.writer) (g.W.Write.contents l.writer) (receipts l.switch.steps);
  limit : limit_of l.lines ≡ l.limit;
  ports : l.switch.ports ≡ l.ports;
  ready : l.switch.is_ready ≡ true;
  past : IsFlatPast l.ports l.switch.steps;
  frames : l.frames.items ≡ [];
}
