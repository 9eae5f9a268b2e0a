use Rattle.std.proofs.Common.{◌++◌, string_bytes, ap, ◌∙◌}
use Rattle.pb_cmd_survive.specs.Reports.{checked_line, not_disconnecting_line, converge_line, accepted_line}
use Rattle.pb_cmd_survive.specs.Reports.{disconnecting_line, looping_line, not_converged_line}
use Rattle.pb_cmd_survive.proofs.ListLemmas.{rejoin_seven}
use Rattle.pb_cmd_survive.proofs.totals.put_totals.Goals as goal

pub returns : goal.returns
returns c =
    let criteria = c.args.criteria in
    let acceptances = c.args.acceptances.now in
    let base = c.args.base.now in
    let impacts = c.args.impacts.now in
    let checked = checked_line impacts in
    let not_disconnecting = not_disconnecting_line criteria base impacts in
    let converging = converge_line impacts in
    let accepted = accepted_line criteria acceptances base impacts in
    let disconnecting = disconnecting_line criteria acceptances base impacts in
    let looping = looping_line impacts in
    let not_converged = not_converged_line impacts in
    c.in_ok-put_not_converged_count.ensures
    ∙ ap (λ z. z ++ not_converged) c.in_ok-put_looping.ensures
    ∙ ap (λ z. (z ++ looping) ++ not_converged) c.in_ok-put_disconnecting.ensures
    ∙ ap (λ z. ((z ++ disconnecting) ++ looping) ++ not_converged) c.in_ok-put_accepted.ensures
    ∙ ap (λ z. (((z ++ accepted) ++ disconnecting) ++ looping) ++ not_converged) c.in_ok-put_converge.ensures
    ∙ ap (λ z. ((((z ++ converging) ++ accepted) ++ disconnecting) ++ looping) ++ not_converged)
    c.in_ok-put_not_disconnecting.ensures
    ∙ ap (λ z. (((((z ++ not_disconnecting) ++ converging) ++ accepted) ++ disconnecting) ++ looping) ++ not_converged)
    c.in_ok-put_checked.ensures
    ∙ rejoin_seven (string_bytes c.args.out.now) checked not_disconnecting converging accepted disconnecting looping
    not_converged
