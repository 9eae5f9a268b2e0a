use Rattle.std.proofs.Common.{◌++◌, [], ◌∷◌, string_bytes, ap, ◌∙◌}
use Rattle.std.specs.Prelude.{codes}
use Rattle.pb_cmd_survive.specs.Reports.{unhealthy_text, not_converged_text}
use Rattle.pb_cmd_survive.proofs.ListLemmas.{rejoin_three}
use Rattle.pb_cmd_survive.proofs.health.put_summary.Goals as goal

pub returns : goal.returns
returns c =
    let base = c.args.base.now in
    let services = unhealthy_text base.views in
    let bridges = not_converged_text base (codes ", bridges do not converge") in
    c.in_ok-push_str.ensures.bytes
    ∙ ap (λ z. z ++ 10 ∷ []) c.in_ok-put_not_converged.ensures
    ∙ ap (λ z. (z ++ bridges) ++ 10 ∷ []) c.in_ok-put_services.ensures
    ∙ ap (λ v. ((string_bytes c.args.out.now ++ unhealthy_text v) ++ bridges) ++ 10 ∷ []) c.as_slice.ensures
    ∙ rejoin_three (string_bytes c.args.out.now) services bridges (10 ∷ [])
