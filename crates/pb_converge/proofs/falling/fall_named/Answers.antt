use Rattle.std.proofs.Common.{inl, inr, map, refl, subst, sym}
use Rattle.std.proofs.lemmas.Result.{err_from_is_err_and}
use Rattle.pb_converge.proofs.FallLemmas.{link_broken, provider_at, link_more}
use Rattle.pb_converge.specs.Drives.{HasBroken}
use Rattle.pb_converge.specs.Falls.{all_down, set_down}
use Rattle.pb_converge.proofs.falling.fall_named.Goals as goal

pub fall_link-requires-clause-a : goal.fall_link-requires-clause-a
fall_link-requires-clause-a c =
    provider_at c.args.plan.now c.requires.sound c.as_slice-link-items.result.now c.loop-link.link-index
    c.link-item.result c.link-item.result.a c.as_slice-link-items.ensures c.loop-link-test.true c.link-item.is
    (inl refl)

pub fall_link-requires-clause-b : goal.fall_link-requires-clause-b
fall_link-requires-clause-b c =
    provider_at c.args.plan.now c.requires.sound c.as_slice-link-items.result.now c.loop-link.link-index
    c.link-item.result c.link-item.result.b c.as_slice-link-items.ensures c.loop-link-test.true c.link-item.is
    (inr refl)

pub loop-link-preserved : goal.loop-link-preserved
loop-link-preserved c = (
  c.in_ok-fall_link.ensures.plan,
  link_more c.args.plan.now c.args.name.now c.as_slice-link-items.result.now c.loop-link.link-index
      c.link-item.result c.args.net.now c.loop-link.net c.fall_link.new.net c.as_slice-link-items.ensures
      c.loop-link-test.true c.link-item.is c.loop-link.invariant.1 c.in_ok-fall_link.ensures.done,
)

pub returns-in_err-fall_link-clause-err : goal.returns-in_err-fall_link-clause-err
returns-in_err-fall_link-clause-err c =
    let p = err_from_is_err_and c.from_residual.result c.from_residual.ensures.1 in
    let old = c.args.net.now in
    let new = c.fall_link.new.net in
    let plan = c.args.plan.now in
    let name = c.args.name.now in
    let b = link_broken plan name c.as_slice-link-items.result.now c.loop-link.link-index c.link-item.result
    c.in_err-fall_link.field-0.0 old c.loop-link.net new c.as_slice-link-items.ensures c.loop-link-test.true
    c.link-item.is c.loop-link.invariant.1 c.in_err-fall_link.ensures.err in
    rw p.1 (subst (λ e. HasBroken (map set_down (all_down plan name)) e old new) (sym p.2) b)
