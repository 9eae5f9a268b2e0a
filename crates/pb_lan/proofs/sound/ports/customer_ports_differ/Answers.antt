use Rattle.std.proofs.Common.{arith, sym, ◌∙◌, refl}
use Rattle.pb_lan.proofs.Distinctness.{distinct_rest, not_distinct, distinct_end}
use Rattle.pb_lan.proofs.sound.ports.customer_ports_differ.Goals as goal
use Rattle.pb_lan.specs.Plans.{is_same_port}
use Rattle.pb_lan.specs.declared.plan.CustomerPlan.{CustomerPlan}

pub returns-then-is_customer_port : goal.returns-then-is_customer_port
returns-then-is_customer_port c =
    let broken = not_distinct is_same_port (λ (x : CustomerPlan). (x.bridge, x.port)) c.loop-rest.rest.now
    c.first-item.result (c.first-item.result.bridge, c.first-item.result.port)
    (omega (arith, c.in-len1-up.len_at_least)) c.first-item.is refl
    (sym c.is_customer_port.ensures ∙ c.if-is_customer_port.true) in
    ((λ h. absurd cc), (λ d. absurd (broken (c.loop-rest.invariant.0 d))))

pub loop-rest-preserved : goal.loop-rest-preserved
loop-rest-preserved c =
    let step = distinct_rest is_same_port (λ (x : CustomerPlan). (x.bridge, x.port)) c.loop-rest.rest.now
    c.first-item.result (c.first-item.result.bridge, c.first-item.result.port)
    (omega (arith, c.in-len1-up.len_at_least)) c.first-item.is refl
    (sym c.is_customer_port.ensures ∙ c.if-is_customer_port.false) in
    ((λ d. step.0 (c.loop-rest.invariant.0 d)), (λ d. c.loop-rest.invariant.1 (step.1 d)))

pub returns : goal.returns
returns c = (
  (λ h. c.loop-rest.invariant.1 (distinct_end is_same_port (λ (x : CustomerPlan). (x.bridge, x.port)) _
      c.in_default.len_below)),
  (λ d. refl),
)
