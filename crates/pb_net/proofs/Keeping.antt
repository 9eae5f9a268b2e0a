-- The lists and queues of a network, with one more step.
use Rattle.std.proofs.Common.{◌≡◌, ℕ, suc, ◌*◌, ◌<◌, ◌/◌, ◌%◌, inl, inr, List, [], ◌∷◌, ◌++◌, length, refl, sym, ap}
use Rattle.std.proofs.Common.{subst, ◌∙◌, arith, length-set}
use Rattle.std.proofs.Math.ListN.{set}
use Rattle.std.proofs.lemmas.Bool.{cases_eq}
use Rattle.pb_lan.specs.BridgeLists.{IsLawfulBridge}
use Rattle.pb_lan.specs.Events.{with_step, sent_to, fetched_from}
use Rattle.pb_lan.specs.LaneLists.{IsLawfulLane}
use Rattle.pb_lan.specs.PortLists.{IsLawfulPort}
use Rattle.pb_lan.specs.Records.{steps_of, received, transmitted}
use Rattle.pb_relay.specs.Protocol.{spanning_tree}
use Rattle.pb_lan.specs.declared.plan.Plan.{Plan}
use Rattle.pb_lan.specs.declared.record.Record.{Record}
use Rattle.pb_lan.specs.declared.step.Item.{Item}
use Rattle.pb_lan.specs.declared.step.Place.TheVariants.{Bridge, Lane, Customer}
use Rattle.pb_lan.specs.declared.step.Step.{Step}
use Rattle.pb_net.specs.Nets.{IsKept}
use Rattle.pb_net.specs.Slots.{IsSlot, bridge_of, port_of, items_at, losses_of}
use Rattle.pb_net.proofs.Meetings.{sent_to-same, fetched_from-same}
use Rattle.pb_net.proofs.OneMore.{steps_of-set_same, steps_of-set_other}

-- a bridge's port has one slot
pub one_slot : (plan : Plan) (bridge port s t : ℕ) → IsSlot plan bridge port s → bridge_of t ≡ bridge
    → port_of t ≡ port → t ≡ s
one_slot plan bridge port s t is b q =
    let rows : t / 16 ≡ s / 16 = omega (arith, is.of_bridge, b) in
    let columns : t % 16 ≡ s % 16 = omega (arith, is.of_port, q) in
    omega arith

-- each inbox gained exactly what was sent to its slot
abbrev pub Sends : Plan → Record → Record → List (List Item) → List (List Item) → Type 0
Sends plan rec rec' ins ins' =
    (s : ℕ) (front : List Item) → front ++ items_at ins s ≡ sent_to plan rec (bridge_of s) (port_of s)
    → front ++ items_at ins' s ≡ sent_to plan rec' (bridge_of s) (port_of s)

abbrev pub Fetches : Plan → Record → Record → List (List Item) → List (List Item) → Type 0
Fetches plan rec rec' outs outs' =
    (s : ℕ) (whole : List Item) → fetched_from plan rec (bridge_of s) (port_of s) ++ items_at outs s ≡ whole
    → fetched_from plan rec' (bridge_of s) (port_of s) ++ items_at outs' s ≡ whole

-- a property of each list of steps, by number, holds after one list has grown
each_set : (P : ℕ → List Step → Type 0) (lists : List (List Step)) (r : ℕ) (grown : List Step) → r < length lists
    → P (suc r) grown → ((n : ℕ) → P n (steps_of lists n)) → (n : ℕ) → P n (steps_of (set lists r grown) n)
each_set P lists r grown within changed each n = elim (cases_eq n (suc r)) [
  | inl e ↦ subst (λ k. P k (steps_of (set lists r grown) k)) (sym e)
      (subst (P (suc r)) (sym (steps_of-set_same lists r grown within)) changed)
  | inr ne ↦ subst (P n) (sym (steps_of-set_other lists r n grown ne)) (each n)
]

-- the invariant after a step of a customer port
pub after_port : (plan : Plan) (rec : Record) (ins outs ins' outs' : List (List Item)) (r : ℕ) (step : Step)
    → IsKept plan rec ins outs → r < length plan.customers
    → IsLawfulPort (suc r) (steps_of rec.customers (suc r) ++ step ∷ [])
    → length ins' ≡ length ins → length outs' ≡ length outs
    → Sends plan rec (with_step rec (Customer (suc r)) step) ins ins'
    → Fetches plan rec (with_step rec (Customer (suc r)) step) outs outs'
    → IsKept plan (with_step rec (Customer (suc r)) step) ins' outs'
after_port plan rec ins outs ins' outs' r step kept within lawful ins_so outs_so sends fetches =
    let grown = steps_of rec.customers (suc r) ++ step ∷ [] in
    let room : r < length rec.customers = omega (arith, kept.customer_count) in
    record {
      bridge_count = kept.bridge_count;
      lane_count = kept.lane_count;
      customer_count = length-set rec.customers r grown ∙ kept.customer_count;
      inbox_count = ins_so ∙ kept.inbox_count;
      outbox_count = outs_so ∙ kept.outbox_count;
      bridges = kept.bridges;
      lanes = kept.lanes;
      ports = each_set IsLawfulPort rec.customers r grown room lawful kept.ports;
      into = λ s. sends s (received (port_of s) (steps_of rec.bridges (bridge_of s))) (kept.into s);
      out = λ s. fetches s (transmitted (port_of s) (steps_of rec.bridges (bridge_of s))) (kept.out s);
    }

-- the invariant after a step of a lane
pub after_lane : (plan : Plan) (rec : Record) (ins outs ins' outs' : List (List Item)) (r : ℕ) (step : Step)
    → IsKept plan rec ins outs → r < 2 * length plan.links
    → IsLawfulLane (losses_of plan (suc r)) (steps_of rec.lanes (suc r) ++ step ∷ [])
    → length ins' ≡ length ins → length outs' ≡ length outs
    → Sends plan rec (with_step rec (Lane (suc r)) step) ins ins'
    → Fetches plan rec (with_step rec (Lane (suc r)) step) outs outs'
    → IsKept plan (with_step rec (Lane (suc r)) step) ins' outs'
after_lane plan rec ins outs ins' outs' r step kept within lawful ins_so outs_so sends fetches =
    let grown = steps_of rec.lanes (suc r) ++ step ∷ [] in
    let room : r < length rec.lanes = omega (arith, kept.lane_count) in
    record {
      bridge_count = kept.bridge_count;
      lane_count = length-set rec.lanes r grown ∙ kept.lane_count;
      customer_count = kept.customer_count;
      inbox_count = ins_so ∙ kept.inbox_count;
      outbox_count = outs_so ∙ kept.outbox_count;
      bridges = kept.bridges;
      lanes = each_set (λ n ms. IsLawfulLane (losses_of plan n) ms) rec.lanes r grown room lawful kept.lanes;
      ports = kept.ports;
      into = λ s. sends s (received (port_of s) (steps_of rec.bridges (bridge_of s))) (kept.into s);
      out = λ s. fetches s (transmitted (port_of s) (steps_of rec.bridges (bridge_of s))) (kept.out s);
    }

-- the invariant after a step of a bridge
pub after_bridge : (plan : Plan) (rec : Record) (ins outs ins' outs' : List (List Item)) (r : ℕ) (step : Step)
    → IsKept plan rec ins outs → r < length plan.bridges
    → IsLawfulBridge spanning_tree plan (suc r) (steps_of rec.bridges (suc r) ++ step ∷ [])
    → length ins' ≡ length ins → length outs' ≡ length outs
    → ((s : ℕ) → (bridge_of s ≡ suc r → ⊥) → (items_at ins' s ≡ items_at ins s)
    × (items_at outs' s ≡ items_at outs s))
    → ((s : ℕ) → bridge_of s ≡ suc r → (whole : List Item) → received (port_of s) (steps_of rec.bridges (suc r))
    ++ items_at ins s ≡ whole
    → received (port_of s) (steps_of rec.bridges (suc r) ++ step ∷ []) ++ items_at ins' s ≡ whole)
    → ((s : ℕ) → bridge_of s ≡ suc r → (front : List Item) → front ++ items_at outs s ≡ transmitted (port_of s)
    (steps_of rec.bridges (suc r))
    → front ++ items_at outs' s ≡ transmitted (port_of s) (steps_of rec.bridges (suc r) ++ step ∷ []))
    → IsKept plan (with_step rec (Bridge (suc r)) step) ins' outs'
after_bridge plan rec ins outs ins' outs' r step kept within lawful ins_so outs_so else_so into out =
    let grown = steps_of rec.bridges (suc r) ++ step ∷ [] in
    let room : r < length rec.bridges = omega (arith, kept.bridge_count) in
    let here : steps_of (set rec.bridges r grown) (suc r) ≡ grown = steps_of-set_same rec.bridges r grown room in
    let rec' : Record = with_step rec (Bridge (suc r)) step in
    let sent = λ (s : ℕ). sym (sent_to-same plan rec rec' (bridge_of s) (port_of s) refl (λ _ _. refl)) in
    let fetched = λ (s : ℕ). fetched_from-same plan rec rec' (bridge_of s) (port_of s) refl (λ _ _. refl) in
    record {
      bridge_count = length-set rec.bridges r grown ∙ kept.bridge_count;
      lane_count = kept.lane_count;
      customer_count = kept.customer_count;
      inbox_count = ins_so ∙ kept.inbox_count;
      outbox_count = outs_so ∙ kept.outbox_count;
      bridges = each_set (IsLawfulBridge spanning_tree plan) rec.bridges r grown room lawful kept.bridges;
      lanes = kept.lanes;
      ports = kept.ports;
      into = λ s. elim (cases_eq (bridge_of s) (suc r)) [
        | inl e ↦ ap (λ ms. received (port_of s) ms ++ items_at ins' s)
            (ap (λ k. steps_of (set rec.bridges r grown) k) e ∙ here)
            ∙ into s e (sent_to plan rec (bridge_of s) (port_of s))
            (ap (λ k. received (port_of s) (steps_of rec.bridges k) ++ items_at ins s) (sym e) ∙ kept.into s)
            ∙ sent s
        | inr ne ↦ ap (λ ms. received (port_of s) ms ++ items_at ins' s)
            (steps_of-set_other rec.bridges r (bridge_of s) grown ne)
            ∙ ap (λ z. received (port_of s) (steps_of rec.bridges (bridge_of s)) ++ z) (else_so s ne).0 ∙ kept.into s
            ∙ sent s
      ];
      out = λ s. elim (cases_eq (bridge_of s) (suc r)) [
        | inl e ↦ ap (λ z. z ++ items_at outs' s) (fetched s)
            ∙ out s e (fetched_from plan rec (bridge_of s) (port_of s))
            (kept.out s ∙ ap (λ k. transmitted (port_of s) (steps_of rec.bridges k)) e)
            ∙ ap (transmitted (port_of s)) (sym (ap (λ k. steps_of (set rec.bridges r grown) k) e ∙ here))
        | inr ne ↦ ap (λ z. z ++ items_at outs' s) (fetched s)
            ∙ ap (λ z. fetched_from plan rec (bridge_of s) (port_of s) ++ z) (else_so s ne).1 ∙ kept.out s
            ∙ ap (transmitted (port_of s)) (sym (steps_of-set_other rec.bridges r (bridge_of s) grown ne))
      ];
    }
