use Rattle.std.proofs.Common.{◌≡◌}
use Rattle.pb_lines.specs.Reader.{held, limit_of}
use Rattle.pb_cmd_control.specs.Conversations.{longest_command}
use Rattle.pb_cmd_control.proofs.ConversationLemmas.{Conversation}
use Rattle.pb_cmd_control.proofs.conversation.converse.Given as goal

abbrev pub invariant-loop : goal.invariant-loop
invariant-loop g l = record {
  so_far : Conversation l.status (held l.lines) (g.I.Read.remaining l.fn.input) (g.I.Read.remaining l.input)
      (g.Q.Write.contents l.fn.requests) (g.Q.Write.contents l.requests)
      (g.R.Read.remaining l.fn.answers) (g.R.Read.remaining l.answers)
      (g.W.Write.contents l.fn.out) (g.W.Write.contents l.out);
  limit : limit_of l.lines ≡ longest_command;
}
