use Rattle.std.proofs.Common.{◌≡◌, false, ◌++◌, string_bytes, refl, sym, ap, subst, ◌∙◌}
use Rattle.pb_cmd_step.specs.Modes.{expectation, asked}
use Rattle.pb_cmd_step.specs.Steps.{StepAnswer}
use Rattle.pb_cmd_step.specs.Tests.{NotesAnswer, is_comment}
use Rattle.pb_cmd_step.proofs.lines.answer_test_line.Goals as goal

pub returns-in-Some-clause-ok : goal.returns-in-Some-clause-ok
returns-in-Some-clause-ok c =
    let is : is_comment c.args.line.now ≡ false = sym c.is_comment.ensures ∙ c.if-is_comment.false in
    expectation c.in-Some.wanted.now is c.in-Some.ensures.some refl c.in_ok-compare.ensures c.requires.empty

pub returns-clause-ok : goal.returns-clause-ok
returns-clause-ok c =
    let is : is_comment c.args.line.now ≡ false = sym c.is_comment.ensures ∙ c.if-is_comment.false in
    let a = c.in_ok-answer_step.ensures.ok in
    let same : string_bytes c.answer_step.new.out ≡ a.0 = a.1 ∙ ap (λ z. z ++ a.0) c.requires.empty in
    asked is c.in_default.ensures.none
    (subst (λ text. StepAnswer c.args.limit c.args.number c.args.line.now c.args.net.now c.answer_step.new.net text)
    (sym same) a.2)
    (subst (λ text. NotesAnswer c.args.number text c.args.notes.now c.keep.new.self) c.as_bytes.ensures.value
    c.in_ok-keep.ensures)
