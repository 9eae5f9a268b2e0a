use Rattle.std.proofs.Common.{◌≡◌, ◌*◌, nat_le, ◌&&◌, length, ap, subst, ◌∙◌, arith}
use Rattle.pb_net.specs.Answers.{NetView}
use Rattle.pb_lan.specs.Events.{has_place}
use Rattle.pb_lan.specs.declared.step.Place.TheVariants.{Bridge, Lane, Customer}
use Rattle.pb_net.proofs.Records.{number_is_named}
use Rattle.pb_net.proofs.net.Net.has_place.Goals as goal

pub returns-in-Bridge : goal.returns-in-Bridge
returns-in-Bridge c =
    let s = c.self.inside in
    let n = c.in-Bridge.number in
    let count : c.len.result ≡ length s.plan.bridges = omega (arith, c.self.invariant.1.bridge_count) in
    rw c.in-Bridge.is (subst (λ (v : NetView). c.is_number.result ≡ has_place v.plan (Bridge n)) c.self.view_is
    (c.is_number.ensures ∙ ap (λ k. nat_le 1 n && nat_le n k) count ∙ number_is_named s.plan.bridges n))

pub returns-in-Lane : goal.returns-in-Lane
returns-in-Lane c =
    let s = c.self.inside in
    let n = c.in-Lane.number in
    let count : c.len-in-Lane.result ≡ 2 * length s.plan.links = omega (arith, c.self.invariant.1.lane_count) in
    rw c.in-Lane.is (subst (λ (v : NetView). c.is_number-in-Lane.result ≡ has_place v.plan (Lane n)) c.self.view_is
    (c.is_number-in-Lane.ensures ∙ ap (λ k. nat_le 1 n && nat_le n k) count))

pub returns-in-Customer : goal.returns-in-Customer
returns-in-Customer c =
    let s = c.self.inside in
    let n = c.in-Customer.number in
    let count : c.len-in-Customer.result ≡ length s.plan.customers = omega (arith, c.self.invariant.1.customer_count)
    in
    rw c.in-Customer.is (subst (λ (v : NetView). c.is_number-in-Customer.result ≡ has_place v.plan (Customer n))
    c.self.view_is
    (c.is_number-in-Customer.ensures ∙ ap (λ k. nat_le 1 n && nat_le n k) count ∙ number_is_named s.plan.customers n))
