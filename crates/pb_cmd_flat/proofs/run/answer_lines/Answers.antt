use Rattle.std.proofs.Common.{◌≡◌, ◌++◌, ◌+◌, ap, sym, ◌∙◌, rules, arith, Err}
use Rattle.std.specs.Io.KnownBytes.{Appends}
use Rattle.pb_lines.specs.Reader.{held, newest}
use Rattle.pb_cmd_flat.specs.Receipts.{receipts}
use Rattle.pb_cmd_flat.proofs.RunLemmas.{goes_on, finishes, has_begun}
use Rattle.pb_messages.proofs.LineLemmas.{of_line-not-steps, line_found, none_found, last_found}
use Rattle.std.proofs.lemmas.Result.{err_from_is_err_and}
use Rattle.pb_messages.specs.declared.fault.CommandFault.TheVariants.{Read}
use Rattle.pb_cmd_flat.proofs.run.answer_lines.Goals as goal

pub loop-number-preserved : goal.loop-number-preserved
loop-number-preserved g c =
    let found = rw c.loop-number.invariant.limit at c.in_ok-found.ensures.line in
    let gives = line_found c.in_ok-found.found c.args.limit (g.R.Read.remaining c.loop-number.reader)
    (held c.loop-number.lines) (g.R.Read.remaining c.next.new.reader) (held c.next.new.self)
    (newest c.next.new.self) c.if-eq.ensures found in
    let a = c.in_ok-answer.ensures.ok in
    let w : Appends (g.W.Write.contents c.loop-number.writer) (g.W.Write.contents c.write_all.new.self)
    c.as_slice.result.now = search rules in
    let e : c.as_slice.result.now ≡ a.0 = c.as_slice.ensures.value ∙ a.1 ∙ ap (λ z. z ++ a.0) c.clear.ensures.items in
    record {
      progress = goes_on c.args.limit c.args.ports c.loop-number.number (g.R.Read.remaining c.args.reader.now)
          (g.R.Read.remaining c.loop-number.reader) (g.R.Read.remaining c.next.new.reader)
          (g.W.Write.contents c.args.writer.now) (g.W.Write.contents c.loop-number.writer)
          (g.W.Write.contents c.write_all.new.self)
          (held c.loop-number.lines) (held c.next.new.self) (newest c.next.new.self) a.0
          (receipts c.loop-number.switch.steps) (receipts c.answer.new.switch.steps)
          c.loop-number.invariant.progress gives (rw c.line-line.ensures at a.2) (rw e at w);
      limit = c.next.ensures.limit ∙ c.loop-number.invariant.limit;
      ports = c.in_ok-answer.ensures.ready.1;
      ready = c.in_ok-answer.ensures.ready.0;
      past = c.in_ok-answer.ensures.past c.loop-number.invariant.past;
      frames = c.answer.ensures.frames;
    }

pub returns-in_err-found-clause-part : goal.returns-in_err-found-clause-part
returns-in_err-found-clause-part g c =
    let p = err_from_is_err_and c.from_residual.result c.from_residual.ensures.1 in
    rw p.1 (λ ne. has_begun p.0 c.args.limit c.args.ports c.loop-number.number (g.R.Read.remaining c.args.reader.now)
    (g.R.Read.remaining c.loop-number.reader)
    (g.W.Write.contents c.args.writer.now) (g.W.Write.contents c.loop-number.writer) (held c.loop-number.lines)
    c.loop-number.switch.steps c.loop-number.invariant.past c.loop-number.invariant.progress
    (λ s. absurd (of_line-not-steps _ (sym p.2 ∙ s))))

pub returns-then-eq-clause-ok : goal.returns-then-eq-clause-ok
returns-then-eq-clause-ok g c =
    let found = rw c.loop-number.invariant.limit at c.in_ok-found.ensures.line in
    let none = none_found c.in_ok-found.found c.args.limit (g.R.Read.remaining c.loop-number.reader)
    (held c.loop-number.lines) (g.R.Read.remaining c.next.new.reader) (held c.next.new.self)
    (newest c.next.new.self) c.if-eq.ensures found in
    finishes c.args.limit c.args.ports c.loop-number.number (g.R.Read.remaining c.args.reader.now)
    (g.R.Read.remaining c.loop-number.reader)
    (g.W.Write.contents c.args.writer.now) (g.W.Write.contents c.loop-number.writer)
    (g.W.Write.contents c.finish.new.writer) (held c.loop-number.lines) c.loop-number.switch.steps
    c.loop-number.invariant.past c.loop-number.invariant.progress none c.in_ok-finish.ensures.ok

pub returns-then-eq-2-clause-ok : goal.returns-then-eq-2-clause-ok
returns-then-eq-2-clause-ok g c =
    let found = rw c.loop-number.invariant.limit at c.in_ok-found.ensures.line in
    let last = last_found c.in_ok-found.found c.args.limit (g.R.Read.remaining c.loop-number.reader)
    (held c.loop-number.lines) (g.R.Read.remaining c.next.new.reader) (held c.next.new.self)
    (newest c.next.new.self) c.if-eq-2.ensures found in
    let gives = last.0 in
    let a = c.in_ok-answer.ensures.ok in
    let w : Appends (g.W.Write.contents c.loop-number.writer) (g.W.Write.contents c.write_all.new.self)
    c.as_slice.result.now = search rules in
    let e : c.as_slice.result.now ≡ a.0 = c.as_slice.ensures.value ∙ a.1 ∙ ap (λ z. z ++ a.0) c.clear.ensures.items in
    let progress =
    goes_on c.args.limit c.args.ports c.loop-number.number (g.R.Read.remaining c.args.reader.now)
    (g.R.Read.remaining c.loop-number.reader) (g.R.Read.remaining c.next.new.reader)
    (g.W.Write.contents c.args.writer.now) (g.W.Write.contents c.loop-number.writer)
    (g.W.Write.contents c.write_all.new.self)
    (held c.loop-number.lines) (held c.next.new.self) (newest c.next.new.self) a.0
    (receipts c.loop-number.switch.steps) (receipts c.answer.new.switch.steps)
    c.loop-number.invariant.progress gives (rw c.line-line.ensures at a.2) (rw e at w) in
    finishes c.args.limit c.args.ports (c.loop-number.number + 1) (g.R.Read.remaining c.args.reader.now)
    (g.R.Read.remaining c.next.new.reader)
    (g.W.Write.contents c.args.writer.now) (g.W.Write.contents c.write_all.new.self)
    (g.W.Write.contents c.finish-then-eq-2.new.writer) (held c.next.new.self) c.answer.new.switch.steps
    (c.in_ok-answer.ensures.past c.loop-number.invariant.past) progress last.1 c.in_ok-finish-2.ensures.ok

pub returns-in_err-answer-clause-part : goal.returns-in_err-answer-clause-part
returns-in_err-answer-clause-part g c =
    let p = err_from_is_err_and c.from_residual-in_err-answer.result c.from_residual-in_err-answer.ensures.1 in
    rw p.1 (λ ne. has_begun p.0 c.args.limit c.args.ports c.loop-number.number (g.R.Read.remaining c.args.reader.now)
    (g.R.Read.remaining c.loop-number.reader)
    (g.W.Write.contents c.args.writer.now) (g.W.Write.contents c.loop-number.writer) (held c.loop-number.lines)
    c.loop-number.switch.steps c.loop-number.invariant.past c.loop-number.invariant.progress
    (λ s. omega (arith, c.in_err-answer.ensures.steps (ap (λ z. Err z) (sym p.2 ∙ s)))))

pub returns-clause-part : goal.returns-clause-part
returns-clause-part g c = λ ne. has_begun Read c.args.limit c.args.ports c.loop-number.number
    (g.R.Read.remaining c.args.reader.now) (g.R.Read.remaining c.loop-number.reader)
    (g.W.Write.contents c.args.writer.now) (g.W.Write.contents c.loop-number.writer) (held c.loop-number.lines)
    c.loop-number.switch.steps c.loop-number.invariant.past c.loop-number.invariant.progress (λ s. cc)

pub returns-in_err-finish-2-clause-part : goal.returns-in_err-finish-2-clause-part
returns-in_err-finish-2-clause-part g c =
    let p = err_from_is_err_and c.from_residual-in_err-finish-2.result c.from_residual-in_err-finish-2.ensures.1 in
    rw p.1 (λ ne. absurd (ne (p.2 ∙ c.in_err-finish-2.ensures.err)))
