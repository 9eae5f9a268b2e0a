use Rattle.std.proofs.Common.{◌++◌, string_bytes, ap, ◌∙◌}
use Rattle.std.proofs.lemmas.Result.{on_ok_weaker}
use Rattle.std.specs.Prelude.{codes}
use Rattle.pb_cmd_survive.specs.Reports.{calm_words, summary_text}
use Rattle.pb_cmd_survive.proofs.ListLemmas.{rejoin_four}
use Rattle.pb_cmd_survive.proofs.health.put_unhealthy.Goals as goal

pub returns : goal.returns
returns c =
    let front = codes "not healthy with " in
    let calm = calm_words c.args.criteria in
    let summary = summary_text c.args.base.now in
    on_ok_weaker c.put_summary.result (λ e. e
    ∙ ap (λ z. z ++ summary) c.in_ok-push_str-2.ensures.bytes
    ∙ ap (λ z. (z ++ codes ": ") ++ summary) c.in_ok-put_calm.ensures
    ∙ ap (λ z. ((z ++ calm) ++ codes ": ") ++ summary) c.in_ok-push_str.ensures.bytes
    ∙ rejoin_four (string_bytes c.args.out.now) front calm (codes ": ") summary) c.put_summary.ensures
