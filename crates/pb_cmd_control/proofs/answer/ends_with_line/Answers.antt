use Rattle.std.proofs.Common.{◌≡◌, ◌++◌, ◌-◌, length, rules, sym, ap, ◌∙◌, subst, take, take-append-drop}
use Rattle.pb_cmd_control.specs.Answers.{AreWholeLines}
use Rattle.pb_cmd_control.proofs.AnswerLemmas.{front_of, back_of}
use Rattle.pb_cmd_control.proofs.answer.ends_with_line.Goals as goal

pub returns-then-eq : goal.returns-then-eq
returns-then-eq c =
    let same : c.split_at.result.1.now ≡ c.args.line.now = search rules in
    let whole : c.args.text.now ≡ c.split_at.result.0.now ++ c.args.line.now =
    rw c.split_at.ensures.front
    (sym (take-append-drop (length c.args.text.now - length c.args.line.now) c.args.text.now)
    ∙ ap (λ last. take (length c.args.text.now - length c.args.line.now) c.args.text.now ++ last)
    (sym c.split_at.ensures.back ∙ same)) in (
      λ t. (c.split_at.result.0.now, c.are_whole_lines.ensures.0 t, whole),
      λ (lines, are_whole, e). c.are_whole_lines.ensures.1
          (subst AreWholeLines (sym (c.split_at.ensures.front ∙ front_of lines c.args.line.now c.args.text.now e))
          are_whole),
    )

pub returns-else-eq : goal.returns-else-eq
returns-else-eq c = (
  λ t. absurd (search rules),
  λ (lines, are_whole, e). let same : c.split_at.result.1.now ≡ c.args.line.now =
      c.split_at.ensures.back ∙ back_of lines c.args.line.now c.args.text.now e in search rules,
)
