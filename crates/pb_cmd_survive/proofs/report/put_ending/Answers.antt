use Rattle.std.proofs.Common.{◌++◌, string_bytes, ap, ◌∙◌}
use Rattle.pb_cmd_survive.specs.AcceptedTexts.{stale_text}
use Rattle.pb_cmd_survive.specs.Judgements.{survives}
use Rattle.pb_cmd_survive.specs.Reports.{totals_text, last_line, any_accepted}
use Rattle.pb_cmd_survive.proofs.ListLemmas.{rejoin_three}
use Rattle.pb_cmd_survive.proofs.report.put_ending.Goals as goal

pub returns-clause-text : goal.returns-clause-text
returns-clause-text c =
    let plan = c.args.plan.now in
    let criteria = c.args.criteria in
    let acceptances = c.args.acceptances.now in
    let base = c.args.base.now in
    let impacts = c.args.impacts.now in
    let totals = totals_text criteria acceptances base impacts in
    let stale = stale_text plan criteria acceptances base impacts in
    let survived = survives criteria acceptances base impacts in
    let last = last_line criteria base impacts survived (any_accepted criteria acceptances base impacts) in
    c.in_ok-put_last.ensures
    ∙ ap (λ b. string_bytes c.put_stale.new.out ++ last_line criteria base impacts b c.any_accepted-accepted.result)
    c.survives-survived.ensures
    ∙ ap (λ b. string_bytes c.put_stale.new.out ++ last_line criteria base impacts survived b)
    c.any_accepted-accepted.ensures
    ∙ ap (λ z. z ++ last) c.in_ok-put_stale.ensures
    ∙ ap (λ z. (z ++ stale) ++ last) c.in_ok-put_totals.ensures
    ∙ rejoin_three (string_bytes c.args.out.now) totals stale last
