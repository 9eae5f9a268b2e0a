use Rattle.std.proofs.Common.{◌≡◌, true}
use Rattle.pb_lines.specs.Reader.{held, limit_of}
use Rattle.pb_cmd_step.specs.Modes.{StepsProgress, noted}
use Rattle.pb_cmd_step.proofs.steps.answer_steps.Given as goal

abbrev pub invariant-loop-number : goal.invariant-loop-number
invariant-loop-number g l = record {
  progress : StepsProgress l.mode l.limit l.number l.names.plan.now (g.R.Read.remaining l.fn.reader) (held l.lines)
      (g.R.Read.remaining l.reader) l.fn.notes
      (g.W.Write.contents l.fn.writer) (g.W.Write.contents l.writer) (noted l.net l.notes);
  limit : limit_of l.lines ≡ l.limit;
  plan : l.net.plan ≡ l.names.plan.now;
  kept : l.net.is_kept ≡ true;
}
