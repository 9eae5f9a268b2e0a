-- What was sent to a bridge's port, and what was fetched from it, as a customer port or a lane takes steps.
use Rattle.std.proofs.Common.{◌≡◌, ℕ, suc, inl, inr, [], ◌∷◌, ◌++◌, Some, slice_get, refl, sym, ap}
use Rattle.std.proofs.Common.{◌∙◌, arith, eqb-true}
use Rattle.std.specs.Cmp.Derive.{both_true}
use Rattle.pb_frame.proofs.Lists.{and-left, and-right, eqb-refl, first-finds, Some-injective}
use Rattle.pb_lan.proofs.Numbers.{numbered-place}
use Rattle.pb_lan.proofs.PortsInPlans.{port_at-customer, port_at-end, customer-place}
use Rattle.pb_lan.specs.Events.{customer_there, lane_from, lane_to, sent_by, sent_to, fetched_by, fetched_from}
use Rattle.pb_lan.specs.Events.{begins_at, ends_at, with_step}
use Rattle.pb_lan.specs.LaneLists.{taken, put}
use Rattle.pb_lan.specs.Numbering.{numbered}
use Rattle.pb_lan.specs.Plans.{IsSound}
use Rattle.pb_lan.specs.PortLists.{fed, delivered}
use Rattle.pb_lan.specs.Ports.{Port, port_at, is_customer_at}
use Rattle.pb_lan.specs.Ports.Port.{Customer, Provider, Unused}
use Rattle.pb_lan.specs.Records.{steps_of}
use Rattle.pb_lan.specs.declared.plan.Plan.{Plan}
use Rattle.pb_lan.specs.declared.plan.CustomerPlan.{CustomerPlan}
use Rattle.pb_lan.specs.declared.plan.End.{End}
use Rattle.pb_lan.specs.declared.plan.LinkPlan.{LinkPlan}
use Rattle.pb_lan.specs.declared.record.Record.{Record}
use Rattle.pb_lan.specs.declared.step.Place.TheVariants.{Customer as CustomerPort}
use Rattle.pb_lan.specs.declared.step.Step.{Step}
use Rattle.pb_net.specs.Slots.{link_of}
use Rattle.pb_net.proofs.Found.{number_of-cases}
use Rattle.pb_net.proofs.Lanes.{lane_to-is, lane_from-is, ends_at-end, begins_at-end}
use Rattle.pb_net.proofs.OneMore.{steps_of-set_other}

-- a planned customer port is the one that is found at its local port
pub customer_there-is : (plan : Plan) → IsSound plan → (n : ℕ) (c : CustomerPlan) → numbered plan.customers n ≡ Some c
    → customer_there plan c.bridge c.port ≡ n
customer_there-is plan sound n c at =
    let place = numbered-place plan.customers n c at in
    elim (number_of-cases (is_customer_at c.bridge c.port) 1 plan.customers) [
      | inl none ↦ let some = first-finds (is_customer_at c.bridge c.port) plan.customers place.0 c place.2
          (both_true (eqb-refl c.bridge) (eqb-refl c.port)) in let wrong = none.1 in let right = some.1 in cc
      | inr (i, d, m, g, f, t) ↦
          let same = customer-place plan sound (suc i) n d c g at (eqb-true d.bridge c.bridge (and-left _ _ t))
          (eqb-true d.port c.port (and-right _ _ t)) in
          m ∙ omega (arith, same)
    ]

-- a customer port that was found by a bridge's port is planned there
customer_there-back : (plan : Plan) (b q r : ℕ) (c : CustomerPlan) → customer_there plan b q ≡ suc r
    → numbered plan.customers (suc r) ≡ Some c → (c.bridge ≡ b) × (c.port ≡ q)
customer_there-back plan b q r c there at =
    elim (number_of-cases (is_customer_at b q) 1 plan.customers) [
      | inl none ↦ absurd (omega (arith, none.0, there))
      | inr (i, d, m, g, f, t) ↦
          let same : i ≡ r = omega (arith, m, there) in
          let one : d ≡ c = Some-injective (sym g ∙ ap (λ k. slice_get plan.customers k) same ∙ at) in (
            ap (λ (x : CustomerPlan). x.bridge) (sym one) ∙ eqb-true d.bridge b (and-left _ _ t),
            ap
                (λ (x : CustomerPlan). x.port) (sym one) ∙ eqb-true d.port q (and-right _ _ t),
          )
    ]

-- what is sent to and fetched from the bridge's port of a customer port
pub sent_to-customer : (plan : Plan) → IsSound plan → (rec : Record) (n : ℕ) (c : CustomerPlan)
    → numbered plan.customers n ≡ Some c
    → sent_to plan rec c.bridge c.port ≡ fed (steps_of rec.customers n)
sent_to-customer plan sound rec n c at =
    ap (sent_by plan rec c.bridge c.port) (port_at-customer plan sound n c at)
    ∙ ap (λ k. fed (steps_of rec.customers k)) (customer_there-is plan sound n c at)

pub fetched_from-customer : (plan : Plan) → IsSound plan → (rec : Record) (n : ℕ) (c : CustomerPlan)
    → numbered plan.customers n ≡ Some c
    → fetched_from plan rec c.bridge c.port ≡ delivered (steps_of rec.customers n)
fetched_from-customer plan sound rec n c at =
    ap (fetched_by plan rec c.bridge c.port) (port_at-customer plan sound n c at)
    ∙ ap (λ k. delivered (steps_of rec.customers k)) (customer_there-is plan sound n c at)

-- what is sent and fetched at the two ends of a lane
pub sent_to-lane : (plan : Plan) → IsSound plan → (rec : Record) (k : ℕ) (link : LinkPlan)
    → numbered plan.links (link_of k) ≡ Some link
    → sent_to plan rec (ends_at k link).bridge (ends_at k link).port ≡ put (steps_of rec.lanes k)
sent_to-lane plan sound rec k link at =
    ap (sent_by plan rec (ends_at k link).bridge (ends_at k link).port)
    (port_at-end plan sound (link_of k) link (ends_at k link) at (ends_at-end k link))
    ∙ ap (λ m. put (steps_of rec.lanes m)) (lane_to-is plan sound k link at)

pub fetched_from-lane : (plan : Plan) → IsSound plan → (rec : Record) (k : ℕ) (link : LinkPlan)
    → numbered plan.links (link_of k) ≡ Some link
    → fetched_from plan rec (begins_at k link).bridge (begins_at k link).port ≡ taken (steps_of rec.lanes k)
fetched_from-lane plan sound rec k link at =
    ap (fetched_by plan rec (begins_at k link).bridge (begins_at k link).port)
    (port_at-end plan sound (link_of k) link (begins_at k link) at (begins_at-end k link))
    ∙ ap (λ m. taken (steps_of rec.lanes m)) (lane_from-is plan sound k link at)

-- Two records with the same steps of the neighbour at a port agree on what was sent to the port and fetched from it.
pub sent_to-same : (plan : Plan) (rec rec' : Record) (b q : ℕ)
    → fed (steps_of rec'.customers (customer_there plan b q)) ≡ fed (steps_of rec.customers (customer_there plan b q))
    → ((e : End) → port_at plan b q ≡ Provider e
    → put (steps_of rec'.lanes (lane_to plan b q)) ≡ put (steps_of rec.lanes (lane_to plan b q)))
    → sent_to plan rec' b q ≡ sent_to plan rec b q
sent_to-same plan rec rec' b q customer lane = by (port_at plan b q) refl
  where
    by : (p : Port) → port_at plan b q ≡ p → sent_by plan rec' b q p ≡ sent_by plan rec b q p
    by (Customer c) h = customer
    by (Provider e) h = lane e h
    by Unused h = refl

pub fetched_from-same : (plan : Plan) (rec rec' : Record) (b q : ℕ)
    → delivered (steps_of rec'.customers (customer_there plan b q))
    ≡ delivered (steps_of rec.customers (customer_there plan b q))
    → ((e : End) → port_at plan b q ≡ Provider e
    → taken (steps_of rec'.lanes (lane_from plan b q)) ≡ taken (steps_of rec.lanes (lane_from plan b q)))
    → fetched_from plan rec' b q ≡ fetched_from plan rec b q
fetched_from-same plan rec rec' b q customer lane = by (port_at plan b q) refl
  where
    by : (p : Port) → port_at plan b q ≡ p → fetched_by plan rec' b q p ≡ fetched_by plan rec b q p
    by (Customer c) h = customer
    by (Provider e) h = lane e h
    by Unused h = refl

-- a step of another customer port changes nothing at a port
pub elsewhere : (plan : Plan) (rec : Record) (r : ℕ) (c : CustomerPlan) (step : Step)
    → numbered plan.customers (suc r) ≡ Some c → (b q : ℕ) → ((c.bridge ≡ b) × (c.port ≡ q) → ⊥)
    → steps_of (with_step rec (CustomerPort (suc r)) step).customers (customer_there plan b q)
    ≡ steps_of rec.customers (customer_there plan b q)
elsewhere plan rec r c step at b q ne = steps_of-set_other rec.customers r (customer_there plan b q)
    (steps_of rec.customers (suc r) ++ step ∷ []) (λ e. ne (customer_there-back plan b q r c e at))
