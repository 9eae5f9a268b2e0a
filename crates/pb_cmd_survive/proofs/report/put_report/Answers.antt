use Rattle.std.proofs.Common.{◌++◌, flat_map, string_bytes, ap, ◌∙◌}
use Rattle.pb_cmd_survive.specs.Reports.{whole_text, health_text, impact_text, ending_text}
use Rattle.pb_cmd_survive.proofs.ListLemmas.{rejoin_four}
use Rattle.pb_cmd_survive.proofs.report.put_report.Goals as goal

pub returns-clause-text : goal.returns-clause-text
returns-clause-text c =
    let plan = c.args.plan.now in
    let criteria = c.args.criteria in
    let acceptances = c.args.acceptances.now in
    let base = c.args.base.now in
    let impacts = c.args.impacts.now in
    let whole = whole_text plan criteria base in
    let health = health_text plan criteria base in
    let told = flat_map (impact_text plan criteria acceptances base) impacts in
    let ending = ending_text plan criteria acceptances base impacts in
    c.in_ok-survived.ensures.text
    ∙ ap (λ z. z ++ ending) c.in_ok-put_impacts.ensures
    ∙ ap (λ z. (z ++ told) ++ ending) c.in_ok-put_health.ensures
    ∙ ap (λ z. ((z ++ health) ++ told) ++ ending) c.in_ok-put_whole.ensures
    ∙ rejoin_four (string_bytes c.args.out.now) whole health told ending
