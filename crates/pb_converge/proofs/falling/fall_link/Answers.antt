use Rattle.std.proofs.Common.{◌∷◌, [], map, subst, sym, ◌∙◌}
use Rattle.std.proofs.lemmas.Result.{IfErr-weaker, err_from_is_err_and}
use Rattle.std.specs.List.{filter}
use Rattle.pb_frame.specs.Admission.{same}
use Rattle.pb_converge.proofs.FallLemmas.{both_due, named_due, broken-first, broken-second}
use Rattle.pb_converge.specs.Drives.{HasBroken}
use Rattle.pb_converge.specs.Falls.{end_name, ends_down, set_down}
use Rattle.pb_converge.proofs.falling.fall_link.Goals as goal

pub returns-in_err-fall-clause-err : goal.returns-in_err-fall-clause-err
returns-in_err-fall-clause-err c =
    let p = err_from_is_err_and c.from_residual.result c.from_residual.ensures.1 in
    let plan = c.args.plan.now in
    let name = c.args.name.now in
    let link = c.args.link.now in
    let old = c.args.net.now in
    let new = c.fall.new.net in
    let b = broken-first (set_down link.a ∷ []) (set_down link.b ∷ []) (map set_down (ends_down plan name link))
    c.in_err-fall.field-0.0 old new (both_due plan name link (sym c.fails.ensures ∙ c.if-fails.true)) c.in_err-fall.ensures.err in
    rw p.1 (subst (λ e. HasBroken (map set_down (ends_down plan name link)) e old new) (sym p.2) b)

pub returns-in_err-fall-2-clause-err : goal.returns-in_err-fall-2-clause-err
returns-in_err-fall-2-clause-err c =
    let p = err_from_is_err_and c.from_residual-in_err-fall-2.result c.from_residual-in_err-fall-2.ensures.1 in
    let plan = c.args.plan.now in
    let name = c.args.name.now in
    let link = c.args.link.now in
    let old = c.args.net.now in
    let new = c.fall-then-fails.new.net in
    let b = broken-second (set_down link.a ∷ []) (set_down link.b ∷ []) (map set_down (ends_down plan name link))
    c.in_err-fall-2.field-0.0 old c.fall.new.net new (both_due plan name link (sym c.fails.ensures ∙ c.if-fails.true)) c.in_ok-fall.ensures.done
    c.in_err-fall-2.ensures.err in
    rw p.1 (subst (λ e. HasBroken (map set_down (ends_down plan name link)) e old new) (sym p.2) b)

pub returns-in_err-fall_if_named-clause-err : goal.returns-in_err-fall_if_named-clause-err
returns-in_err-fall_if_named-clause-err c =
    let p = err_from_is_err_and c.from_residual-in_err-fall_if_named.result
    c.from_residual-in_err-fall_if_named.ensures.1 in
    let plan = c.args.plan.now in
    let name = c.args.name.now in
    let link = c.args.link.now in
    let old = c.args.net.now in
    let new = c.fall_if_named.new.net in
    let first = map set_down (filter (λ e. same name (end_name plan e)) (link.a ∷ [])) in
    let second = map set_down (filter (λ e. same name (end_name plan e)) (link.b ∷ [])) in
    let b = broken-first first second (map set_down (ends_down plan name link)) c.in_err-fall_if_named.field-0.0 old new
    (named_due plan name link (sym c.fails.ensures ∙ c.if-fails.false)) c.in_err-fall_if_named.ensures.err in
    rw p.1 (subst (λ e. HasBroken (map set_down (ends_down plan name link)) e old new) (sym p.2) b)

pub returns-clause-err : goal.returns-clause-err
returns-clause-err c =
    let plan = c.args.plan.now in
    let name = c.args.name.now in
    let link = c.args.link.now in
    let first = map set_down (filter (λ e. same name (end_name plan e)) (link.a ∷ [])) in
    let second = map set_down (filter (λ e. same name (end_name plan e)) (link.b ∷ [])) in
    IfErr-weaker c.fall_if_named-2.result _ _
    (λ fault b. broken-second first second (map set_down (ends_down plan name link)) fault c.args.net.now
    c.fall_if_named.new.net c.fall_if_named-2.new.net (named_due plan name link (sym c.fails.ensures ∙ c.if-fails.false)) c.in_ok-fall_if_named.ensures.done b)
    c.fall_if_named-2.ensures.err
