use Rattle.std.proofs.Common.{arith, sym, ◌∙◌, refl, nat_eq}
use Rattle.pb_lan.proofs.Distinctness.{distinct_rest, not_distinct, distinct_end}
use Rattle.pb_lan.proofs.sound.distinct.vids_differ.Goals as goal
use Rattle.pb_lan.specs.declared.plan.ServicePlan.{ServicePlan}

pub returns-then-has_vid : goal.returns-then-has_vid
returns-then-has_vid c =
    let broken = not_distinct nat_eq (λ (x : ServicePlan). x.vid) c.loop-rest.rest.now c.first-item.result
    c.first-item.result.vid (omega (arith, c.in-len1-up.len_at_least)) c.first-item.is refl
    (sym c.has_vid.ensures ∙ c.if-has_vid.true) in
    ((λ h. absurd cc), (λ d. absurd (broken (c.loop-rest.invariant.0 d))))

pub loop-rest-preserved : goal.loop-rest-preserved
loop-rest-preserved c =
    let step = distinct_rest nat_eq (λ (x : ServicePlan). x.vid) c.loop-rest.rest.now c.first-item.result
    c.first-item.result.vid (omega (arith, c.in-len1-up.len_at_least)) c.first-item.is refl
    (sym c.has_vid.ensures ∙ c.if-has_vid.false) in
    ((λ d. step.0 (c.loop-rest.invariant.0 d)), (λ d. c.loop-rest.invariant.1 (step.1 d)))

pub returns : goal.returns
returns c = (
  (λ h. c.loop-rest.invariant.1
      (distinct_end nat_eq (λ (x : ServicePlan). x.vid) _ c.in_default.len_below)),
  (λ d. refl),
)
