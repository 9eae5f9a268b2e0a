use Rattle.std.proofs.Common.{◌∙◌, ap}
use Rattle.std.specs.Prelude.{max}
use Rattle.pb_lines.specs.Reader.{held, newest}
use Rattle.pb_messages.proofs.LineLemmas.{line_found, last_found}
use Rattle.pb_cmd_control.specs.Answers.{status_of}
use Rattle.pb_cmd_control.specs.Conversations.{longest_command}
use Rattle.pb_cmd_control.proofs.ConversationLemmas.{starts, goes_on, finishes}
use Rattle.pb_cmd_control.proofs.conversation.converse.Goals as goal

pub loop-init : goal.loop-init
loop-init g c = record {
  so_far = starts (held c.in_ok-lines.lines) (g.I.Read.remaining c.args.input.now)
      (g.Q.Write.contents c.args.requests.now)
      (g.R.Read.remaining c.args.answers.now) (g.W.Write.contents c.args.out.now) c.in_ok-lines.ensures.held;
  limit = c.in_ok-lines.ensures.limit;
}

pub loop-preserved : goal.loop-preserved
loop-preserved g c =
    let found = rw c.loop.invariant.limit at c.in_ok-found.ensures.line in
    let gives = line_found c.in_ok-found.found longest_command (g.I.Read.remaining c.loop.input) (held c.loop.lines)
    (g.I.Read.remaining c.next.new.reader) (held c.next.new.self) (newest c.next.new.self) c.if-eq.ensures found in
    let status = c.max-status.ensures ∙ ap (λ s. max c.loop.status s) c.status.ensures in
    record {
      so_far = rw status (goes_on c.loop.status c.in_ok-verdict.verdict (held c.loop.lines) (held c.next.new.self)
          (newest c.next.new.self)
          (g.I.Read.remaining c.args.input.now) (g.I.Read.remaining c.loop.input) (g.I.Read.remaining c.next.new.reader)
          (g.Q.Write.contents c.args.requests.now) (g.Q.Write.contents c.loop.requests)
          (g.Q.Write.contents c.ask.new.requests)
          (g.R.Read.remaining c.args.answers.now) (g.R.Read.remaining c.loop.answers)
          (g.R.Read.remaining c.ask.new.answers)
          (g.W.Write.contents c.args.out.now) (g.W.Write.contents c.loop.out) (g.W.Write.contents c.ask.new.out)
          c.loop.invariant.so_far gives (rw c.line.ensures at c.in_ok-verdict.ensures.sent)
          c.in_ok-verdict.ensures.passed_on);
      limit = c.next.ensures.limit ∙ c.loop.invariant.limit;
    }

pub returns-then-eq-2-clause-ok : goal.returns-then-eq-2-clause-ok
returns-then-eq-2-clause-ok g c =
    let found = rw c.loop.invariant.limit at c.in_ok-found.ensures.line in
    let last = last_found c.in_ok-found.found longest_command (g.I.Read.remaining c.loop.input) (held c.loop.lines)
    (g.I.Read.remaining c.next.new.reader) (held c.next.new.self) (newest c.next.new.self) c.if-eq-2.ensures found in
    let status = c.max-status.ensures ∙ ap (λ s. max c.loop.status s) c.status.ensures in
    rw status (finishes (max c.loop.status (status_of c.in_ok-verdict.verdict)) (held c.next.new.self)
    (g.I.Read.remaining c.args.input.now) (g.I.Read.remaining c.next.new.reader)
    (g.Q.Write.contents c.args.requests.now) (g.Q.Write.contents c.ask.new.requests)
    (g.R.Read.remaining c.args.answers.now) (g.R.Read.remaining c.ask.new.answers)
    (g.W.Write.contents c.args.out.now) (g.W.Write.contents c.ask.new.out)
    (goes_on c.loop.status c.in_ok-verdict.verdict (held c.loop.lines) (held c.next.new.self) (newest c.next.new.self)
    (g.I.Read.remaining c.args.input.now) (g.I.Read.remaining c.loop.input) (g.I.Read.remaining c.next.new.reader)
    (g.Q.Write.contents c.args.requests.now) (g.Q.Write.contents c.loop.requests)
    (g.Q.Write.contents c.ask.new.requests)
    (g.R.Read.remaining c.args.answers.now) (g.R.Read.remaining c.loop.answers) (g.R.Read.remaining c.ask.new.answers)
    (g.W.Write.contents c.args.out.now) (g.W.Write.contents c.loop.out) (g.W.Write.contents c.ask.new.out)
    c.loop.invariant.so_far last.0 (rw c.line.ensures at c.in_ok-verdict.ensures.sent)
    c.in_ok-verdict.ensures.passed_on)
    last.1)
