use Rattle.std.proofs.Common.{◌≡◌, ◌+◌, ap, string_bytes, sym, ◌∙◌, rules, Err}
use Rattle.std.specs.Io.KnownBytes.{Appends}
use Rattle.std.proofs.lemmas.Result.{err_from_is_err_and}
use Rattle.pb_lines.specs.Reader.{held, newest}
use Rattle.pb_messages.proofs.LineLemmas.{of_line-not-steps, line_found, none_found, last_found}
use Rattle.pb_cmd_step.specs.Modes.{noted}
use Rattle.pb_cmd_step.proofs.StepLemmas.{steps_start, steps_go_on, steps_end, steps_begun, steps_stopped}
use Rattle.pb_messages.specs.declared.fault.CommandFault.TheVariants.{Read}
use Rattle.pb_cmd_step.proofs.steps.answer_steps.Goals as goal

pub loop-number-init : goal.loop-number-init
loop-number-init g c = record {
  progress = steps_start c.args.mode c.args.limit c.args.names.now.plan.now c.args.notes.now
      (g.R.Read.remaining c.args.reader.now)
      (held c.args.lines.now) (g.W.Write.contents c.args.writer.now) c.args.net.now c.requires.held c.requires.fresh;
  limit = c.requires.lines;
  plan = ap (λ n. n.plan) c.requires.fresh;
  kept = ap (λ n. n.is_kept) c.requires.fresh;
}

pub loop-number-preserved : goal.loop-number-preserved
loop-number-preserved g c =
    let found = rw c.loop-number.invariant.limit at c.in_ok-found.ensures.line in
    let gives = line_found c.in_ok-found.found c.args.limit (g.R.Read.remaining c.loop-number.reader)
    (held c.loop-number.lines) (g.R.Read.remaining c.next.new.reader) (held c.next.new.self)
    (newest c.next.new.self) c.if-eq.ensures found in
    let a = rw c.line-line.ensures at c.in_ok-answer_line.ensures.ok in
    let w : Appends (g.W.Write.contents c.loop-number.writer) (g.W.Write.contents c.write_all.new.self)
    c.as_bytes.result.now = search rules in
    let text = string_bytes c.answer_line.new.out in
    let e : c.as_bytes.result.now ≡ text = c.as_bytes.ensures.value in
    record {
      progress = steps_go_on c.args.mode c.args.limit c.loop-number.number c.args.names.now.plan.now c.args.notes.now
          (g.R.Read.remaining c.args.reader.now) (g.R.Read.remaining c.loop-number.reader)
          (g.R.Read.remaining c.next.new.reader)
          (g.W.Write.contents c.args.writer.now) (g.W.Write.contents c.loop-number.writer)
          (g.W.Write.contents c.write_all.new.self)
          (held c.loop-number.lines) (held c.next.new.self) (newest c.next.new.self) text
          (noted c.loop-number.net c.loop-number.notes)
          (noted c.answer_line.new.net c.answer_line.new.notes)
          c.loop-number.invariant.progress gives a (rw e at w);
      limit = c.next.ensures.limit ∙ c.loop-number.invariant.limit;
      plan = c.in_ok-answer_line.ensures.plan;
      kept = c.in_ok-answer_line.ensures.kept;
    }

pub returns-in_err-found-clause-part : goal.returns-in_err-found-clause-part
returns-in_err-found-clause-part g c =
    let p = err_from_is_err_and c.from_residual.result c.from_residual.ensures.1 in
    rw p.1 (λ ne. steps_begun p.0 c.args.mode c.args.limit c.loop-number.number c.args.names.now.plan.now
    c.args.notes.now
    (g.R.Read.remaining c.args.reader.now) (g.R.Read.remaining c.loop-number.reader)
    (g.W.Write.contents c.args.writer.now) (g.W.Write.contents c.loop-number.writer) (held c.loop-number.lines)
    (noted c.loop-number.net c.loop-number.notes) c.loop-number.invariant.progress
    (λ s. of_line-not-steps _ (sym p.2 ∙ s)))

pub returns-then-eq-clause-ok : goal.returns-then-eq-clause-ok
returns-then-eq-clause-ok g c =
    let found = rw c.loop-number.invariant.limit at c.in_ok-found.ensures.line in
    let none = none_found c.in_ok-found.found c.args.limit (g.R.Read.remaining c.loop-number.reader)
    (held c.loop-number.lines) (g.R.Read.remaining c.next.new.reader) (held c.next.new.self)
    (newest c.next.new.self) c.if-eq.ensures found in
    steps_end c.args.mode c.args.limit c.loop-number.number c.args.names.now.plan.now c.args.notes.now
    (g.R.Read.remaining c.args.reader.now)
    (g.R.Read.remaining c.loop-number.reader)
    (g.W.Write.contents c.args.writer.now) (g.W.Write.contents c.loop-number.writer) (held c.loop-number.lines)
    (noted c.loop-number.net c.loop-number.notes)
    c.loop-number.invariant.progress none

pub returns-then-eq-2-clause-ok : goal.returns-then-eq-2-clause-ok
returns-then-eq-2-clause-ok g c =
    let found = rw c.loop-number.invariant.limit at c.in_ok-found.ensures.line in
    let last = last_found c.in_ok-found.found c.args.limit (g.R.Read.remaining c.loop-number.reader)
    (held c.loop-number.lines) (g.R.Read.remaining c.next.new.reader) (held c.next.new.self)
    (newest c.next.new.self) c.if-eq-2.ensures found in
    let gives = last.0 in
    let a = rw c.line-line.ensures at c.in_ok-answer_line.ensures.ok in
    let w : Appends (g.W.Write.contents c.loop-number.writer) (g.W.Write.contents c.write_all.new.self)
    c.as_bytes.result.now = search rules in
    let text = string_bytes c.answer_line.new.out in
    let e : c.as_bytes.result.now ≡ text = c.as_bytes.ensures.value in
    let progress =
    steps_go_on c.args.mode c.args.limit c.loop-number.number c.args.names.now.plan.now c.args.notes.now
    (g.R.Read.remaining c.args.reader.now)
    (g.R.Read.remaining c.loop-number.reader) (g.R.Read.remaining c.next.new.reader)
    (g.W.Write.contents c.args.writer.now) (g.W.Write.contents c.loop-number.writer)
    (g.W.Write.contents c.write_all.new.self)
    (held c.loop-number.lines) (held c.next.new.self) (newest c.next.new.self) text
    (noted c.loop-number.net c.loop-number.notes)
    (noted c.answer_line.new.net c.answer_line.new.notes)
    c.loop-number.invariant.progress gives a (rw e at w) in
    steps_end c.args.mode c.args.limit (c.loop-number.number + 1) c.args.names.now.plan.now c.args.notes.now
    (g.R.Read.remaining c.args.reader.now)
    (g.R.Read.remaining c.next.new.reader)
    (g.W.Write.contents c.args.writer.now) (g.W.Write.contents c.write_all.new.self) (held c.next.new.self)
    (noted c.answer_line.new.net c.answer_line.new.notes)
    progress last.1

pub returns-in_err-answer_line-clause-part : goal.returns-in_err-answer_line-clause-part
returns-in_err-answer_line-clause-part g c =
    let found = rw c.loop-number.invariant.limit at c.in_ok-found.ensures.line in
    let gives = line_found c.in_ok-found.found c.args.limit (g.R.Read.remaining c.loop-number.reader)
    (held c.loop-number.lines) (g.R.Read.remaining c.next.new.reader) (held c.next.new.self)
    (newest c.next.new.self) c.if-eq.ensures found in
    let p = err_from_is_err_and c.from_residual-in_err-answer_line.result c.from_residual-in_err-answer_line.ensures.1
    in
    rw p.1 (λ ne. steps_stopped p.0 c.args.mode c.args.limit c.loop-number.number c.args.names.now.plan.now
    c.args.notes.now
    (g.R.Read.remaining c.args.reader.now) (g.R.Read.remaining c.loop-number.reader)
    (g.R.Read.remaining c.next.new.reader)
    (g.W.Write.contents c.args.writer.now) (g.W.Write.contents c.loop-number.writer) (held c.loop-number.lines)
    (held c.next.new.self) (newest c.next.new.self) (noted c.loop-number.net c.loop-number.notes)
    c.loop-number.invariant.progress gives
    (λ s. rw c.line-line.ensures at (c.in_err-answer_line.ensures.steps (ap (λ z. Err z) (sym p.2 ∙ s)))))

pub returns-clause-part : goal.returns-clause-part
returns-clause-part g c = λ ne. steps_begun Read c.args.mode c.args.limit c.loop-number.number
    c.args.names.now.plan.now c.args.notes.now
    (g.R.Read.remaining c.args.reader.now) (g.R.Read.remaining c.loop-number.reader)
    (g.W.Write.contents c.args.writer.now) (g.W.Write.contents c.loop-number.writer) (held c.loop-number.lines)
    (noted c.loop-number.net c.loop-number.notes) c.loop-number.invariant.progress (λ s. cc)
