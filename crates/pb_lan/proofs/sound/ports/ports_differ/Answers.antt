use Rattle.std.proofs.Common.{arith}
use Rattle.pb_lan.proofs.UsedPorts.{ports_rest, ports_twice, ports_end}
use Rattle.pb_lan.proofs.sound.ports.ports_differ.Goals as goal

pub returns-then-not-has_free_ends : goal.returns-then-not-has_free_ends
returns-then-not-has_free_ends c =
    let twice = ports_twice c.loop-rest.rest.now c.args.customers.now c.first-item.result
    (omega (arith, c.in-len1-up.len_at_least)) c.first-item.is
    (λ free. let t = c.has_free_ends.ensures.1 free in cc) in
    ((λ h. absurd cc), (λ d. absurd (twice (c.loop-rest.invariant.0 d))))

pub loop-rest-preserved : goal.loop-rest-preserved
loop-rest-preserved c =
    let step = ports_rest c.loop-rest.rest.now c.args.customers.now c.first-item.result
    (omega (arith, c.in-len1-up.len_at_least)) c.first-item.is
    (c.has_free_ends.ensures.0 c.if-not-has_free_ends.false) in
    ((λ d. step.0 (c.loop-rest.invariant.0 d)), (λ d. c.loop-rest.invariant.1 (step.1 d)))

pub returns : goal.returns
returns c =
    let only = ports_end c.loop-rest.rest.now c.args.customers.now c.in_default.len_below in (
      (λ t. c.loop-rest.invariant.1 (rw only (c.customer_ports_differ.ensures.0 t))),
      (λ d. c.customer_ports_differ.ensures.1 (rw only at (c.loop-rest.invariant.0 d))),
    )
