-- A network after a step of a customer port.
use Rattle.std.proofs.Common.{◌≡◌, ℕ, suc, ◌<◌, inl, inr, false, List, [], ◌∷◌, ◌++◌, Some, map, length, slice_get}
use Rattle.std.proofs.Common.{refl, sym, ap, ap₂, ◌∙◌, arith, length-set}
use Rattle.std.proofs.Math.ListN.{set}
use Rattle.std.proofs.lemmas.List.{map-append}
use Rattle.std.proofs.lemmas.Bool.{cases_eq}
use Rattle.pb_frame.proofs.Things.{flat_map-none, flat_map-more}
use Rattle.pb_lan.specs.Events.{with_step, sent_to, fetched_from, customer_there, lane_to, lane_from}
use Rattle.pb_lan.specs.LaneLists.{taken, put}
use Rattle.pb_lan.specs.PortLists.{fed, delivered, fed_by, delivered_by, all_delivered, Delivered, IsLawfulPort}
use Rattle.pb_lan.specs.Plans.{IsSound}
use Rattle.pb_lan.specs.Records.{steps_of}
use Rattle.pb_lan.specs.declared.plan.Plan.{Plan}
use Rattle.pb_lan.specs.declared.record.Record.{Record}
use Rattle.pb_lan.specs.declared.step.Item.{Item}
use Rattle.pb_lan.specs.declared.step.Place.TheVariants.{Customer}
use Rattle.pb_lan.specs.declared.step.Step.{Step}
use Rattle.pb_lan.specs.declared.step.Step.TheVariants.{Poll, Feed, Deliver}
use Rattle.pb_net.specs.Nets.{IsKept}
use Rattle.pb_net.specs.Slots.{IsSlot, MeetsSlot, bridge_of, port_of, items_at}
use Rattle.pb_net.proofs.Keeping.{after_port, one_slot, Sends, Fetches}
use Rattle.pb_net.proofs.Meetings.{sent_to-customer, fetched_from-customer, sent_to-same, fetched_from-same}
use Rattle.pb_net.proofs.Meetings.{elsewhere}
use Rattle.pb_net.proofs.OneMore.{items_at-set_other, steps_of-set_same}
use Rattle.pb_net.proofs.OneMore.{one_more-kept, moved_on, moved_in}

-- `Sends` and `Fetches` if nothing was sent and nothing fetched
pub sends-nothing : (plan : Plan) (rec rec' : Record) (ins : List (List Item))
    → ((m : ℕ) → fed (steps_of rec'.customers m) ≡ fed (steps_of rec.customers m))
    → ((m : ℕ) → put (steps_of rec'.lanes m) ≡ put (steps_of rec.lanes m)) → Sends plan rec rec' ins ins
sends-nothing plan rec rec' ins customers lanes = λ s front e. e ∙ sym (sent_to-same plan rec rec' (bridge_of s)
    (port_of s) (customers (customer_there plan (bridge_of s) (port_of s)))
    (λ _ _. lanes (lane_to plan (bridge_of s) (port_of s))))

pub fetches-nothing : (plan : Plan) (rec rec' : Record) (outs : List (List Item))
    → ((m : ℕ) → delivered (steps_of rec'.customers m) ≡ delivered (steps_of rec.customers m))
    → ((m : ℕ) → taken (steps_of rec'.lanes m) ≡ taken (steps_of rec.lanes m)) → Fetches plan rec rec' outs outs
fetches-nothing plan rec rec' outs customers lanes = λ s whole e. ap (λ z. z ++ items_at outs s)
    (fetched_from-same plan rec rec' (bridge_of s) (port_of s)
    (customers (customer_there plan (bridge_of s) (port_of s)))
    (λ _ _. lanes (lane_from plan (bridge_of s) (port_of s)))) ∙ e

-- `Sends` and `Fetches` if one item was sent to one port, or fetched from one
pub sends-one : (plan : Plan) (rec rec' : Record) (ins : List (List Item)) (s b q : ℕ) (item : Item)
    (inbox : List Item)
    → IsSlot plan b q s → slice_get ins s ≡ Some inbox → sent_to plan rec' b q ≡ sent_to plan rec b q ++ item ∷ []
    → ((c p : ℕ) → ((b ≡ c) × (q ≡ p) → ⊥) → sent_to plan rec' c p ≡ sent_to plan rec c p)
    → Sends plan rec rec' ins (set ins s (inbox ++ item ∷ []))
sends-one plan rec rec' ins s b q item inbox at box grown others = λ t front e. elim (cases_eq t s) [
  | inl here ↦
      let to = λ (r : Record). ap₂ (sent_to plan r) (ap bridge_of here ∙ at.of_bridge) (ap port_of here ∙ at.of_port)
      in
      moved_in front ins s t item inbox here box (to rec' ∙ grown ∙ ap (λ z. z ++ item ∷ []) (sym (to rec))) e
  | inr ne ↦ ap (λ z. front ++ z) (items_at-set_other ins s t (inbox ++ item ∷ []) ne) ∙ e
      ∙ sym (others (bridge_of t) (port_of t) (λ w. ne (one_slot plan b q s t at (sym w.0) (sym w.1))))
]

pub fetches-one : (plan : Plan) (rec rec' : Record) (outs : List (List Item)) (s b q : ℕ) (item : Item)
    (outbox : List Item)
    → IsSlot plan b q s → slice_get outs s ≡ Some (item ∷ outbox)
    → fetched_from plan rec' b q ≡ fetched_from plan rec b q ++ item ∷ []
    → ((c p : ℕ) → ((b ≡ c) × (q ≡ p) → ⊥) → fetched_from plan rec' c p ≡ fetched_from plan rec c p)
    → Fetches plan rec rec' outs (set outs s outbox)
fetches-one plan rec rec' outs s b q item outbox at box grown others = λ t whole e. elim (cases_eq t s) [
  | inl here ↦
      let got = λ (r : Record). ap₂ (fetched_from plan r) (ap bridge_of here ∙ at.of_bridge)
      (ap port_of here ∙ at.of_port) in
      moved_on (fetched_from plan rec (bridge_of t) (port_of t)) outs s t item outbox here box
      (got rec' ∙ grown ∙ ap (λ z. z ++ item ∷ []) (sym (got rec))) e
  | inr ne ↦ ap₂ (λ (x y : List Item). x ++ y)
      (others (bridge_of t) (port_of t) (λ w. ne (one_slot plan b q s t at (sym w.0) (sym w.1))))
      (items_at-set_other outs s t outbox ne) ∙ e
]

abbrev items_in : List Delivered → List Item
items_in ds = map (λ d. d.item) ds

-- a step that delivers nothing adds nothing to what was delivered
delivers-nothing : (step : Step) → delivered_by step ≡ [] → (ms : List Step)
    → delivered (ms ++ step ∷ []) ≡ delivered ms
delivers-nothing step e ms = ap items_in (flat_map-none delivered_by step e ms)

-- the network's invariant after a Poll step
pub after_poll : (plan : Plan) (rec : Record) (ins outs : List (List Item)) (r : ℕ) (item : Item)
    → IsKept plan rec ins outs → r < length plan.customers
    → IsLawfulPort (suc r) (steps_of rec.customers (suc r) ++ Poll item ∷ [])
    → IsKept plan (with_step rec (Customer (suc r)) (Poll item)) ins outs
after_poll plan rec ins outs r item kept within lawful =
    let room : r < length rec.customers = omega (arith, kept.customer_count) in
    let step : Step = Poll item in
    let rec' : Record = with_step rec (Customer (suc r)) step in
    after_port plan rec ins outs ins outs r step kept within lawful refl refl
    (sends-nothing plan rec rec' ins
    (λ m. one_more-kept fed step (flat_map-none fed_by step refl) rec.customers r m room) (λ m. refl))
    (fetches-nothing plan rec rec' outs
    (λ m. one_more-kept delivered step (delivers-nothing step refl) rec.customers r m room) (λ m. refl))

-- the network's invariant after a Feed step
pub after_feed : (plan : Plan) (rec : Record) (ins outs : List (List Item)) (r s : ℕ) (item : Item)
    (inbox : List Item)
    → IsSound plan → IsKept plan rec ins outs → r < length plan.customers → MeetsSlot plan (suc r) s
    → slice_get ins s ≡ Some inbox
    → IsLawfulPort (suc r) (steps_of rec.customers (suc r) ++ Feed item ∷ [])
    → IsKept plan (with_step rec (Customer (suc r)) (Feed item)) (set ins s (inbox ++ item ∷ [])) outs
after_feed plan rec ins outs r s item inbox sound kept within meets box lawful =
    let room : r < length rec.customers = omega (arith, kept.customer_count) in
    let c = meets.customer in
    let step : Step = Feed item in
    let steps : List Step = steps_of rec.customers (suc r) in
    let rec' : Record = with_step rec (Customer (suc r)) step in
    let grown : sent_to plan rec' c.bridge c.port ≡ sent_to plan rec c.bridge c.port ++ item ∷ [] =
    sent_to-customer plan sound rec' (suc r) c meets.planned
    ∙ ap fed (steps_of-set_same rec.customers r (steps ++ step ∷ []) room) ∙ flat_map-more fed_by steps step
    ∙ ap (λ z. z ++ item ∷ []) (sym (sent_to-customer plan sound rec (suc r) c meets.planned)) in
    after_port plan rec ins outs (set ins s (inbox ++ item ∷ [])) outs r step kept within lawful
    (length-set ins s (inbox ++ item ∷ [])) refl
    (sends-one plan rec rec' ins s c.bridge c.port item inbox meets.at box grown
    (λ b q ne. sent_to-same plan rec rec' b q (ap fed (elsewhere plan rec r c step meets.planned b q ne))
    (λ e h. refl)))
    (fetches-nothing plan rec rec' outs
    (λ m. one_more-kept delivered step (delivers-nothing step refl) rec.customers r m room) (λ m. refl))

-- the network's invariant after a Deliver step
pub after_deliver : (plan : Plan) (rec : Record) (ins outs : List (List Item)) (r s : ℕ) (item : Item)
    (outbox : List Item)
    → IsSound plan → IsKept plan rec ins outs → r < length plan.customers → MeetsSlot plan (suc r) s
    → slice_get outs s ≡ Some (item ∷ outbox)
    → IsLawfulPort (suc r) (steps_of rec.customers (suc r) ++ Deliver item false ∷ [])
    → IsKept plan (with_step rec (Customer (suc r)) (Deliver item false)) ins (set outs s outbox)
after_deliver plan rec ins outs r s item outbox sound kept within meets box lawful =
    let room : r < length rec.customers = omega (arith, kept.customer_count) in
    let c = meets.customer in
    let step : Step = Deliver item false in
    let steps : List Step = steps_of rec.customers (suc r) in
    let rec' : Record = with_step rec (Customer (suc r)) step in
    let grown : fetched_from plan rec' c.bridge c.port ≡ fetched_from plan rec c.bridge c.port ++ item ∷ [] =
    fetched_from-customer plan sound rec' (suc r) c meets.planned
    ∙ ap delivered (steps_of-set_same rec.customers r (steps ++ step ∷ []) room)
    ∙ ap items_in (flat_map-more delivered_by steps step)
    ∙ map-append (λ (d : Delivered). d.item) (all_delivered steps) (delivered_by step)
    ∙ ap (λ z. z ++ item ∷ []) (sym (fetched_from-customer plan sound rec (suc r) c meets.planned)) in
    after_port plan rec ins outs ins (set outs s outbox) r step kept within lawful refl (length-set outs s outbox)
    (sends-nothing plan rec rec' ins
    (λ m. one_more-kept fed step (flat_map-none fed_by step refl) rec.customers r m room) (λ m. refl))
    (fetches-one plan rec rec' outs s c.bridge c.port item outbox meets.at box grown
    (λ b q ne. fetched_from-same plan rec rec' b q (ap delivered (elsewhere plan rec r c step meets.planned b q ne))
    (λ e h. refl)))
