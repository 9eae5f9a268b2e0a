use Rattle.std.proofs.Common.{◌++◌, ◌∙◌, string_bytes, refl, ap, subst, append_assoc}
use Rattle.std.proofs.lemmas.Result.{on_ok_weaker}
use Rattle.pb_report.specs.ForestTexts.{IsForestText}
use Rattle.pb_report.proofs.record.put_record.Goals as goal

pub returns : goal.returns
returns c =
    let old = string_bytes c.args.out.now in
    let k = c.in_ok-put_counts.ensures in
    on_ok_weaker c.put_forest.result (λ f. (
      k.0 ++ f.0,
      f.1 ∙ ap (λ z. z ++ f.0) k.1 ∙ append_assoc old k.0 f.0,
      record {
        counts = k.0;
        are_counts = k.2;
        forest = f.0;
        is_forest = subst (λ s. IsForestText c.args.plan.now s f.0) c.in_ok-shape.ensures f.2;
        text_is = refl;
      },
    )) c.put_forest.ensures
