use Rattle.std.proofs.Common.{◌++◌, ◌∙◌, string_bytes, refl, ap, append_assoc}
use Rattle.std.proofs.lemmas.Result.{on_ok_weaker}
use Rattle.pb_report.specs.RecordTexts.{settled_line}
use Rattle.pb_cmd_step.proofs.steps.put_report.Goals as goal

pub returns : goal.returns
returns c =
    let old = string_bytes c.args.out.now in
    let k = c.in_ok-put_record.ensures in
    let line = settled_line c.args.settled in
    on_ok_weaker c.put_settled.result (λ e. (
      k.0 ++ line,
      e ∙ ap (λ z. z ++ line) k.1 ∙ append_assoc old k.0 line,
      record {
        told = k.0;
        is_told = k.2;
        answer = c.args.settled;
        is_answer = c.requires.settled;
        text_is = refl;
      },
    )) c.put_settled.ensures
