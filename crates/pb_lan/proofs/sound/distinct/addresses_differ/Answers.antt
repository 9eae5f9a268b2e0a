use Rattle.std.proofs.Common.{arith, sym, ◌∙◌, refl}
use Rattle.pb_frame.specs.Admission.{same}
use Rattle.pb_lan.proofs.Distinctness.{distinct_rest, not_distinct, distinct_end}
use Rattle.pb_lan.proofs.sound.distinct.addresses_differ.Goals as goal
use Rattle.pb_lan.specs.declared.plan.BridgePlan.{BridgePlan}

pub returns-then-has_address : goal.returns-then-has_address
returns-then-has_address c =
    let broken = not_distinct same (λ (x : BridgePlan). x.address.0) c.loop-rest.rest.now c.first-item.result
    c.first-item.result.address.0 (omega (arith, c.in-len1-up.len_at_least)) c.first-item.is refl
    (sym c.has_address.ensures ∙ c.if-has_address.true) in
    ((λ h. absurd cc), (λ d. absurd (broken (c.loop-rest.invariant.0 d))))

pub loop-rest-preserved : goal.loop-rest-preserved
loop-rest-preserved c =
    let step = distinct_rest same (λ (x : BridgePlan). x.address.0) c.loop-rest.rest.now c.first-item.result
    c.first-item.result.address.0 (omega (arith, c.in-len1-up.len_at_least)) c.first-item.is refl
    (sym c.has_address.ensures ∙ c.if-has_address.false) in
    ((λ d. step.0 (c.loop-rest.invariant.0 d)), (λ d. c.loop-rest.invariant.1 (step.1 d)))

pub returns : goal.returns
returns c = (
  (λ h. c.loop-rest.invariant.1
      (distinct_end same (λ (x : BridgePlan). x.address.0) _ c.in_default.len_below)),
  (λ d. refl),
)
