use Rattle.std.proofs.Common.{◌≡◌, ◌*◌, true, length, sym, ap, subst, ◌∙◌}
use Rattle.pb_net.specs.Answers.{NetView}
use Rattle.pb_lan.specs.Events.{steps_at, has_place}
use Rattle.pb_lan.specs.declared.step.Place.TheVariants.{Bridge, Lane, Customer}
use Rattle.pb_link.specs.Hands.{PlaceView}
use Rattle.pb_link.specs.Lanes.{LaneView}
use Rattle.pb_relay.specs.Standing.{BridgeView}
use Rattle.pb_net.proofs.Records.{all_kept, known_steps, known_number, known_lane, lawful_inside}
use Rattle.pb_net.proofs.net.Net.steps.Goals as goal

pub returns-in-Bridge-clause-steps : goal.returns-in-Bridge-clause-steps
returns-in-Bridge-clause-steps c =
    let s = c.self.inside in
    let n = c.in-Bridge.number in
    let there = subst (λ (v : NetView). has_place v.plan (Bridge n) ≡ true) (sym c.self.view_is)
    (rw c.in-Bridge.is at c.requires.has) in
    let is = known_steps (λ (b : BridgeView). b.steps) (λ b. b.is_kept) s.bridges.items n _ c.index.result.now
    c.self.invariant.1.bridge_count (known_number s.plan.bridges n there) (rw c.index_of.ensures at c.index.ensures)
    (all_kept (λ (b : BridgeView). b.is_kept) s.bridges.items s c.self.view_is c.requires.kept
    c.self.invariant.1.kept_bridges) in
    rw c.in-Bridge.is (c.steps.ensures.steps is.0 ∙ is.1 ∙ ap (λ (v : NetView). steps_at v.rec (Bridge n))
    c.self.view_is)

pub returns-in-Bridge-clause-lawful : goal.returns-in-Bridge-clause-lawful
returns-in-Bridge-clause-lawful c = lawful_inside c.self.inside c.self.invariant c.self.view_is

pub returns-in-Lane-clause-steps : goal.returns-in-Lane-clause-steps
returns-in-Lane-clause-steps c =
    let s = c.self.inside in
    let n = c.in-Lane.number in
    let there = subst (λ (v : NetView). has_place v.plan (Lane n) ≡ true) (sym c.self.view_is)
    (rw c.in-Lane.is at c.requires.has) in
    let is = known_steps (λ (l : LaneView). l.steps) (λ l. l.is_kept) s.lanes.items n _ c.index-in-Lane.result.now
    c.self.invariant.1.lane_count (known_lane n (2 * length s.plan.links) there)
    (rw c.index_of-in-Lane.ensures at c.index-in-Lane.ensures)
    (all_kept (λ (l : LaneView). l.is_kept) s.lanes.items s c.self.view_is c.requires.kept
    c.self.invariant.1.kept_lanes) in
    rw c.in-Lane.is (c.steps-in-Lane.ensures.steps is.0 ∙ is.1 ∙ ap (λ (v : NetView). steps_at v.rec (Lane n))
    c.self.view_is)

pub returns-in-Lane-clause-lawful : goal.returns-in-Lane-clause-lawful
returns-in-Lane-clause-lawful c = lawful_inside c.self.inside c.self.invariant c.self.view_is

pub returns-in-Customer-clause-steps : goal.returns-in-Customer-clause-steps
returns-in-Customer-clause-steps c =
    let s = c.self.inside in
    let n = c.in-Customer.number in
    let there = subst (λ (v : NetView). has_place v.plan (Customer n) ≡ true) (sym c.self.view_is)
    (rw c.in-Customer.is at c.requires.has) in
    let is = known_steps (λ (p : PlaceView). p.steps) (λ p. p.is_kept) s.customers.items n _
    c.index-in-Customer.result.now
    c.self.invariant.1.customer_count (known_number s.plan.customers n there)
    (rw c.index_of-in-Customer.ensures at c.index-in-Customer.ensures)
    (all_kept (λ (p : PlaceView). p.is_kept) s.customers.items s c.self.view_is c.requires.kept
    c.self.invariant.1.kept_customers) in
    rw c.in-Customer.is (c.steps-in-Customer.ensures.steps is.0 ∙ is.1 ∙ ap
    (λ (v : NetView). steps_at v.rec (Customer n)) c.self.view_is)

pub returns-in-Customer-clause-lawful : goal.returns-in-Customer-clause-lawful
returns-in-Customer-clause-lawful c = lawful_inside c.self.inside c.self.invariant c.self.view_is
