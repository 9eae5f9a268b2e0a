use Rattle.std.proofs.Common.{◌≡◌, ◌++◌, string_bytes, refl, sym, ap, subst, ◌∙◌}
use Rattle.std.proofs.lemmas.Result.{on_ok_weaker}
use Rattle.pb_cmd_step.specs.Modes.{LineAnswer, noted}
use Rattle.pb_cmd_step.specs.Steps.{StepAnswer}
use Rattle.pb_cmd_step.proofs.lines.answer_line.Goals as goal

pub returns-in-Script-clause-ok : goal.returns-in-Script-clause-ok
returns-in-Script-clause-ok c =
    let out = string_bytes c.answer_step.new.out in
    on_ok_weaker c.answer_step.result (λ a.
    let same : out ≡ a.0 = a.1 ∙ ap (λ z. z ++ a.0) c.requires.empty in
    subst (λ mode. LineAnswer mode c.args.limit c.args.number c.args.line.now (noted c.args.net.now c.args.notes.now)
    (noted c.answer_step.new.net c.args.notes.now) out) (sym c.in-Script.is) (
      subst (λ text. StepAnswer c.args.limit c.args.number c.args.line.now c.args.net.now c.answer_step.new.net text)
          (sym same) a.2,
      refl,
    )) c.answer_step.ensures.ok
