-- The invariant and the outcome of a network after an event was performed, and after one that failed.
use Rattle.std.proofs.Common.{◌≡◌, ℕ, suc, ◌+◌, ◌<◌, Bool, true, false, ◌==◌, ◌↔◌, List, [], ◌∷◌, ◌++◌}
use Rattle.std.proofs.Common.{Some, Ok, Err, map, length, get_or, refl, sym, ap, subst, ◌∙◌, arith, Global}
use Rattle.std.proofs.lemmas.Bool.{eq-eqb}
use Rattle.std.proofs.lemmas.Bool.Decides.{nat_tests}
use Rattle.std.proofs.lemmas.List.{map-set}
use Rattle.std.proofs.Math.ListN.{set}
use Rattle.std.specs.declared.collections.VecDeque.{VecDeque}
use Rattle.std.specs.declared.result.Result.{Result}
use Rattle.std.specs.Result.{IsErrOf}
use Rattle.pb_lan.specs.BridgeLists.{IsLawfulBridge, Fits}
use Rattle.pb_lan.specs.Choice.{now_after}
use Rattle.pb_lan.specs.Events.{HasDone, IsStepOf, place_of, with_step, names_something, is_idle, is_at_limit}
use Rattle.pb_lan.specs.LaneLists.{IsLawfulLane}
use Rattle.pb_lan.specs.PortLists.{IsLawfulPort}
use Rattle.pb_lan.specs.Records.{steps_of, received_by, transmitted_by}
use Rattle.pb_relay.specs.Protocol.{spanning_tree}
use Rattle.pb_lan.specs.declared.event.Event.{Event}
use Rattle.pb_lan.specs.declared.event.Event.TheVariants.{Poll, Feed, Deliver, Receive, Transmit, Tick, Admin, Take}
use Rattle.pb_lan.specs.declared.event.Event.TheVariants.{Put}
use Rattle.pb_lan.specs.declared.plan.Plan.{Plan}
use Rattle.pb_lan.specs.declared.record.Record.{Record}
use Rattle.pb_lan.specs.declared.step.Item.{Item}
use Rattle.pb_lan.specs.declared.step.Place.{Place}
use Rattle.pb_lan.specs.declared.step.Place.TheVariants.{Bridge, Lane, Customer}
use Rattle.pb_lan.specs.declared.step.Step.{Step}
use Rattle.pb_lan.specs.declared.step.Step.TheVariants.{Poll as Polled, Feed as Fed, Deliver as Delivered}
use Rattle.pb_lan.specs.declared.step.Step.TheVariants.{Receive as Received, Transmit as Transmitted, Tick as Ticked}
use Rattle.pb_lan.specs.declared.step.Step.TheVariants.{Admin as Administered, Put as Put_on}
use Rattle.pb_link.specs.Hands.{PlaceView}
use Rattle.pb_link.specs.Lanes.{LaneView, taking}
use Rattle.pb_relay.proofs.StepLemmas.{lawful_more}
use Rattle.pb_relay.specs.Changes.{HasTicked, HasSet}
use Rattle.pb_relay.specs.Standing.{BridgeView, with_step as with_bridge_step}
use Rattle.pb_relay.specs.declared.fault.BridgeFault.{BridgeFault}
use Rattle.pb_relay.specs.declared.fault.BridgeFault.TheVariants.{StepLimit as bridge_limit, Memory as bridge_memory}
use Rattle.pb_net.specs.Answers.{NetView, IsDue, IsAnswer}
use Rattle.pb_net.specs.Faults.{fault_of}
use Rattle.pb_net.specs.Moves.{HasFedInto, HasDelivered, HasReceivedFrom, HasTransmittedTo, HasTakenFrom, HasPutInto}
use Rattle.pb_net.specs.Nets.{IsKept, record_of}
use Rattle.pb_net.specs.Slots.{IsSlot, MeetsSlot, IsLaneStart, IsLaneEnd, losses_of}
use Rattle.pb_net.specs.declared.did.Did.{Did}
use Rattle.pb_net.specs.declared.did.Did.TheVariants.{Done}
use Rattle.pb_net.specs.declared.fault.NetFault.{NetFault}
use Rattle.pb_net.specs.declared.fault.NetFault.TheVariants.{StepLimit, Memory}
use Rattle.pb_net.specs.declared.net.Net.TheInside.{Inside}
use Rattle.pb_net.specs.declared.slots.Spot.{Spot}
use Rattle.pb_net.proofs.BridgeMoves.{after_receive, after_transmit, after_quiet}
use Rattle.pb_net.proofs.DueLemmas.{limit_is, due_within}
use Rattle.pb_net.proofs.KnownSpots.{items_in, ins_of, outs_of, rec_of, rec_in, shown, KeepsAs, StandsAt, BridgeAt}
use Rattle.pb_net.proofs.KnownSpots.{CustomerAt, StartAt, EndAt, inbox_at, outbox_at}
use Rattle.pb_net.proofs.LaneMoves.{after_take, after_put}
use Rattle.pb_net.proofs.OneMore.{steps_of-map, one_more-map, map-set_kept}
use Rattle.pb_net.proofs.Placing.{placed_bridge, placed_lane, placed_customer}
use Rattle.pb_net.proofs.PortMoves.{after_poll, after_feed, after_deliver}

abbrev pub net_with : Inside → Record → NetView
net_with s rec = record { plan = s.plan; rec = rec; is_kept = s.is_kept }

-- `IsAnswer` of a fault after which nothing changed
answers_err : {net : NetView} {rec : Record} {result : Result Did NetFault} (s : Inside) (event : Event)
    (told : NetFault)
    → shown s ≡ net → rec ≡ rec_in s → (fault : NetFault) × (result ≡ Err fault) × (fault ≡ told)
    → (net_with s rec ≡ shown s → IsAnswer (shown s) event (Err told) (net_with s rec))
    → IsAnswer net event result (net_with s rec)
answers_err {net} {rec} {result} s event told view same met answer =
    subst (λ (v : NetView). IsAnswer v event result (net_with s rec)) view
    (subst (λ (x : Result Did NetFault). IsAnswer (shown s) event x (net_with s rec))
    (sym (met.1 ∙ ap (λ z. Err z) met.2)) (answer (ap (net_with s) same)))

-- `IsAnswer` of an event that was due when an allocation failed
pub answers_memory : {net : NetView} {rec : Record} {result : Result Did NetFault} (s : Inside) (event : Event)
    → shown s ≡ net → IsDue (shown s) event → rec ≡ rec_in s
    → (fault : NetFault) × (result ≡ Err fault) × (fault ≡ Memory) → IsAnswer net event result (net_with s rec)
answers_memory s event view due same met = answers_err s event Memory view same met (λ e. (due, e))

-- `IsAnswer` of a bridge's fault: the step limit if its list is full, else out of memory
pub answers_fault : {net : NetView} {rec : Record} {result : Result Did NetFault} {s : Inside} {bridge port : ℕ}
    {spot : Spot} {b : BridgeView} {T : Type 0} (event : Event) (fault : BridgeFault)
    → BridgeAt s bridge port spot b → shown s ≡ net → rec ≡ rec_in s → names_something s.plan event ≡ true
    → is_idle s.plan (rec_in s) event ≡ false
    → is_at_limit s.plan (rec_in s) event ≡ (length (steps_of (rec_in s).bridges bridge) == s.plan.steps)
    → (IsErrOf {T = T} (Err fault) bridge_limit ↔ (length b.steps ≡ b.plan.steps))
    → (met : NetFault) × (result ≡ Err met) × (met ≡ fault_of fault) → IsAnswer net event result (net_with s rec)
answers_fault {s = s} event bridge_limit at view same named busy limit_so limit met =
    answers_err s event StepLimit view same met
    (λ e. (named, busy, limit_so ∙ limit_is at ∙ eq-eqb _ _ (limit.0 refl), e))
answers_fault {s = s} event bridge_memory at view same named busy limit_so limit met =
    answers_memory s event view (due_within at event named busy limit_so (λ l. let wrong = limit.1 l in cc)) same met

-- `IsAnswer` of an event that was performed
pub answers_done : {net : NetView} {rec : Record} (s : Inside) (event : Event)
    → shown s ≡ net → IsDue (shown s) event → HasDone (rec_in s) event rec
    → IsAnswer net event (Ok (Done (place_of event))) (net_with s rec)
answers_done {rec = rec} s event view due done =
    subst (λ (v : NetView). IsAnswer v event (Ok (Done (place_of event))) (net_with s rec)) view
    (due, refl, refl, done, refl)

-- a length that is not zero is positive
pub some_there : (n : ℕ) → (n == 0) ≡ false → 0 < n
some_there n e = grind (arith, nat_tests)

-- whether a Poll is due does not depend on its frame
pub with_frame : (net : NetView) (port : ℕ) (frame : List ℕ) → IsDue net (Poll port []) → IsDue net (Poll port frame)
with_frame net port frame due = record { named = due.named; busy = due.busy; within = due.within }

-- the record is unchanged if the place at a spot has unchanged steps, as after a failed step
pub customer_failed : {s : Inside} {port : ℕ} {spot : Spot} {old : PlaceView} (new : PlaceView)
    → CustomerAt s port spot old
    → new.number ≡ old.number → new.is_kept ≡ old.is_kept → new.steps ≡ old.steps
    → KeepsAs s s.bridges.items s.lanes.items (set s.customers.items spot.place new) (ins_of s) (outs_of s)
    × (record_of s.bridges.items s.lanes.items (set s.customers.items spot.place new) ≡ rec_in s)
customer_failed {s} {port} {spot} {old} new at number is_kept same =
    let k = at.keeps in
    let e = ap (rec_of (rec_in s).bridges (rec_in s).lanes)
    (map-set_kept (λ (p : PlaceView). p.steps) s.customers.items spot.place old new at.here same) in
    ((k.0, placed_customer s spot.place old new k at.here number is_kept, rw e k.2, k.3, k.4, k.5), e)

pub lane_failed : {s : Inside} {lane : ℕ} {IsSpot : Spot → Type 0} {spot : Spot} {old : LaneView} (new : LaneView)
    → StandsAt s (λ (l : LaneView). l.steps) s.lanes.items lane IsSpot spot old
    → new.losses ≡ old.losses → new.is_kept ≡ old.is_kept → new.steps ≡ old.steps
    → KeepsAs s s.bridges.items (set s.lanes.items spot.place new) s.customers.items (ins_of s) (outs_of s)
    × (record_of s.bridges.items (set s.lanes.items spot.place new) s.customers.items ≡ rec_in s)
lane_failed {s} {lane} {IsSpot} {spot} {old} new at losses is_kept same =
    let k = at.keeps in
    let e = ap (λ (lists : List (List Step)). rec_of (rec_in s).bridges lists (rec_in s).customers)
    (map-set_kept (λ (l : LaneView). l.steps) s.lanes.items spot.place old new at.here same) in
    ((k.0, placed_lane s spot.place old new k at.here losses is_kept, rw e k.2, k.3, k.4, k.5), e)

-- the steps of an unchanged bridge are those of the record
pub bridge_kept : {s : Inside} {bridge port : ℕ} {spot : Spot} {old : BridgeView} (new : BridgeView)
    → BridgeAt s bridge port spot old → new.steps ≡ old.steps
    → record_of (set s.bridges.items spot.place new) s.lanes.items s.customers.items ≡ rec_in s
bridge_kept {s} {bridge} {port} {spot} {old} new at same =
    ap (λ (lists : List (List Step)). rec_of lists (rec_in s).lanes (rec_in s).customers)
    (map-set_kept (λ (b : BridgeView). b.steps) s.bridges.items spot.place old new at.here same)

pub bridge_failed : {s : Inside} {bridge port : ℕ} {spot : Spot} {old : BridgeView} (new : BridgeView)
    → BridgeAt s bridge port spot old
    → new.plan ≡ old.plan → new.number ≡ old.number → new.is_kept ≡ old.is_kept → new.steps ≡ old.steps
    → KeepsAs s (set s.bridges.items spot.place new) s.lanes.items s.customers.items (ins_of s) (outs_of s)
    × (record_of (set s.bridges.items spot.place new) s.lanes.items s.customers.items ≡ rec_in s)
bridge_failed {s} {bridge} {port} {spot} {old} new at of_plan number is_kept same =
    let k = at.keeps in
    let e = bridge_kept new at same in
    ((k.0, placed_bridge s spot.place old new k at.here of_plan number is_kept, rw e k.2, k.3, k.4, k.5), e)

-- an event was performed: the invariant holds of these parts, and the place has taken its step
abbrev IsDoneAs : Inside → Event → List BridgeView → List LaneView → List PlaceView → List (List Item)
    → List (List Item) → Type 0
IsDoneAs s event bridges lanes customers ins outs =
    KeepsAs s bridges lanes customers ins outs × HasDone (rec_in s) event (record_of bridges lanes customers)

-- A customer port took this step: its list is lawful with it, and its queue changed accordingly.
customer_done : {s : Inside} {port : ℕ} {spot : Spot} {old : PlaceView} {ins outs : List (List Item)}
    (new : PlaceView) (event : Event) (step : Step)
    → CustomerAt s port spot old
    → new.number ≡ old.number → new.is_kept ≡ old.is_kept → IsLawfulPort new.number new.steps
    → new.steps ≡ old.steps ++ step ∷ []
    → IsStepOf event step → Customer port ≡ place_of event
    → (IsLawfulPort (suc spot.place) (steps_of (rec_in s).customers (suc spot.place) ++ step ∷ [])
    → IsKept s.plan (with_step (rec_in s) (Customer (suc spot.place)) step) ins outs)
    → IsDoneAs s event s.bridges.items s.lanes.items (set s.customers.items spot.place new) ins outs
customer_done {s} {port} {spot} {old} new event step at number is_kept lawful steps is_step place after =
    let k = at.keeps in
    let named : new.number ≡ suc spot.place = number ∙ k.1.customer_numbers spot.place old at.here ∙ omega arith in
    let mine = steps_of-map (λ (p : PlaceView). p.steps) s.customers.items spot.place old at.here in
    let grown = steps ∙ ap (λ (ms : List Step). ms ++ step ∷ []) (sym mine) in
    let kept = after (subst (λ (ms : List Step). IsLawfulPort (suc spot.place) ms) grown
    (subst (λ n. IsLawfulPort n new.steps) named lawful)) in
    let recorded = ap (rec_of (rec_in s).bridges (rec_in s).lanes)
    (one_more-map (λ (p : PlaceView). p.steps) s.customers.items spot.place old new step at.here steps) in
    let there = ap (λ (p : Place). with_step (rec_in s) p step) (ap (λ n. Customer n) at.numbered ∙ place) in (
      (k.0, placed_customer s spot.place old new k at.here number is_kept, rw recorded kept, k.3, k.4, k.5),
      (step, is_step, recorded ∙ there),
    )

lane_done : {s : Inside} {lane : ℕ} {IsSpot : Spot → Type 0} {spot : Spot} {old : LaneView}
    {ins outs : List (List Item)} (new : LaneView) (event : Event) (step : Step)
    → StandsAt s (λ (l : LaneView). l.steps) s.lanes.items lane IsSpot spot old
    → new.losses ≡ old.losses → new.is_kept ≡ old.is_kept → IsLawfulLane new.losses new.steps
    → new.steps ≡ old.steps ++ step ∷ []
    → IsStepOf event step → Lane lane ≡ place_of event
    → (IsLawfulLane (losses_of s.plan (suc spot.place)) (steps_of (rec_in s).lanes (suc spot.place) ++ step ∷ [])
    → IsKept s.plan (with_step (rec_in s) (Lane (suc spot.place)) step) ins outs)
    → IsDoneAs s event s.bridges.items (set s.lanes.items spot.place new) s.customers.items ins outs
lane_done {s} {lane} {IsSpot} {spot} {old} new event step at losses is_kept lawful steps is_step place after =
    let k = at.keeps in
    let next : spot.place + 1 ≡ suc spot.place = omega arith in
    let of_plan : new.losses ≡ losses_of s.plan (suc spot.place) = losses ∙ k.1.lane_losses spot.place old at.here
    ∙ ap (losses_of s.plan) next in
    let mine = steps_of-map (λ (l : LaneView). l.steps) s.lanes.items spot.place old at.here in
    let grown = steps ∙ ap (λ (ms : List Step). ms ++ step ∷ []) (sym mine) in
    let kept = after (subst (λ (ms : List Step). IsLawfulLane (losses_of s.plan (suc spot.place)) ms) grown
    (subst (λ (ls : List ℕ). IsLawfulLane ls new.steps) of_plan lawful)) in
    let recorded = ap (λ (lists : List (List Step)). rec_of (rec_in s).bridges lists (rec_in s).customers)
    (one_more-map (λ (l : LaneView). l.steps) s.lanes.items spot.place old new step at.here steps) in
    let there = ap (λ (p : Place). with_step (rec_in s) p step) (ap (λ n. Lane n) at.numbered ∙ place) in (
      (k.0, placed_lane s spot.place old new k at.here losses is_kept, rw recorded kept, k.3, k.4, k.5),
      (step, is_step, recorded ∙ there),
    )

bridge_done : {s : Inside} {bridge port : ℕ} {spot : Spot} {old : BridgeView} {ins outs : List (List Item)}
    (new : BridgeView) (event : Event) (step : Step)
    → BridgeAt s bridge port spot old
    → new.plan ≡ old.plan → new.number ≡ old.number → new.is_kept ≡ old.is_kept
    → Fits spanning_tree old.plan old.number old.steps step → new.steps ≡ old.steps ++ step ∷ []
    → IsStepOf event step → Bridge bridge ≡ place_of event
    → (IsLawfulBridge spanning_tree s.plan (suc spot.place)
    (steps_of (rec_in s).bridges (suc spot.place) ++ step ∷ [])
    → IsKept s.plan (with_step (rec_in s) (Bridge (suc spot.place)) step) ins outs)
    → IsDoneAs s event (set s.bridges.items spot.place new) s.lanes.items s.customers.items ins outs
bridge_done {s} {bridge} {port} {spot} {old} new event step at of_plan number is_kept fits steps is_step place after =
    let k = at.keeps in
    let r = spot.place in
    let named : old.number ≡ suc r = k.1.bridge_numbers r old at.here ∙ omega arith in
    let mine = steps_of-map (λ (b : BridgeView). b.steps) s.bridges.items r old at.here in
    let fits_here = subst (λ (p : Plan). Fits spanning_tree p (suc r) old.steps step) (k.1.planned r old at.here)
    (subst (λ (n : ℕ). Fits spanning_tree old.plan n old.steps step) named fits) in
    let lawful = lawful_more spanning_tree s.plan (suc r) old.steps step
    (subst (λ (ms : List Step). IsLawfulBridge spanning_tree s.plan (suc r) ms) mine (k.2.bridges (suc r)))
    fits_here in
    let kept = after (subst (λ (ms : List Step). IsLawfulBridge spanning_tree s.plan (suc r) (ms ++ step ∷ []))
    (sym mine) lawful) in
    let recorded = ap (λ (lists : List (List Step)). rec_of lists (rec_in s).lanes (rec_in s).customers)
    (one_more-map (λ (b : BridgeView). b.steps) s.bridges.items r old new step at.here steps) in
    let there = ap (λ (p : Place). with_step (rec_in s) p step) (ap (λ n. Bridge n) at.numbered ∙ place) in (
      (k.0, placed_bridge s r old new k at.here of_plan number is_kept, rw recorded kept, k.3, k.4, k.5),
      (step, is_step, recorded ∙ there),
    )

pub poll_done : {s : Inside} {port : ℕ} {spot : Spot} {old : PlaceView} (new : PlaceView) (item : Item)
    → CustomerAt s port spot old
    → new.number ≡ old.number → new.is_kept ≡ old.is_kept → IsLawfulPort new.number new.steps
    → new.steps ≡ old.steps ++ Polled item ∷ []
    → IsDoneAs s (Poll port item.wire) s.bridges.items s.lanes.items (set s.customers.items spot.place new) (ins_of s)
    (outs_of s)
poll_done {s} {port} {spot} new item at number is_kept lawful steps =
    customer_done new (Poll port item.wire) (Polled item) at number is_kept lawful steps refl refl
    (after_poll s.plan (rec_in s) (ins_of s) (outs_of s) spot.place item at.keeps.2 at.known.there)

-- the slot of a customer port, by its index
meets : {s : Inside} {port : ℕ} {spot : Spot} {p : PlaceView} → CustomerAt s port spot p
    → MeetsSlot s.plan (suc spot.place) spot.slot
meets {s} {port} {spot} at = subst (λ n. MeetsSlot s.plan n spot.slot) (sym at.numbered) at.known.slot

pub feed_done : {s : Inside} {port : ℕ} {spot : Spot} {old : PlaceView} {box : VecDeque Item Global} (new : PlaceView)
    (box' : VecDeque Item Global)
    → CustomerAt s port spot old → box ≡ get_or s.inboxes.items spot.slot box
    → new.number ≡ old.number → new.is_kept ≡ old.is_kept → IsLawfulPort new.number new.steps
    → HasFedInto old box.items new box'.items
    → IsDoneAs s (Feed port) s.bridges.items s.lanes.items (set s.customers.items spot.place new)
    (map items_in (set s.inboxes.items spot.slot box')) (outs_of s)
feed_done {s} {port} {spot} {old} {box} new box' at value number is_kept lawful moved =
    rw (map-set items_in s.inboxes.items spot.slot box', moved.queued)
    (customer_done new (Feed port) (Fed moved.item) at number is_kept lawful moved.steps tt refl
    (after_feed s.plan (rec_in s) (ins_of s) (outs_of s) spot.place spot.slot moved.item box.items at.keeps.0.sound
    at.keeps.2 at.known.there (meets at) (inbox_at at value)))

pub deliver_done : {s : Inside} {port : ℕ} {spot : Spot} {old : PlaceView} {box : VecDeque Item Global}
    (new : PlaceView) (box' : VecDeque Item Global)
    → CustomerAt s port spot old → box ≡ get_or s.outboxes.items spot.slot box
    → new.number ≡ old.number → new.is_kept ≡ old.is_kept → IsLawfulPort new.number new.steps
    → HasDelivered old box.items new box'.items
    → IsDoneAs s (Deliver port) s.bridges.items s.lanes.items (set s.customers.items spot.place new) (ins_of s)
    (map items_in (set s.outboxes.items spot.slot box'))
deliver_done {s} {port} {spot} {old} {box} new box' at value number is_kept lawful moved =
    let there = outbox_at at value ∙ ap (λ z. Some z) moved.taken in
    rw (map-set items_in s.outboxes.items spot.slot box')
    (customer_done new (Deliver port) (Delivered moved.item false) at number is_kept lawful moved.steps refl refl
    (after_deliver s.plan (rec_in s) (ins_of s) (outs_of s) spot.place spot.slot moved.item box'.items
    at.keeps.0.sound at.keeps.2 at.known.there (meets at) there))

-- the slot of a bridge's port, by the bridge's index
slot_by_index : {s : Inside} {bridge port : ℕ} {spot : Spot} {b : BridgeView} → BridgeAt s bridge port spot b
    → IsSlot s.plan (suc spot.place) port spot.slot
slot_by_index {s} {bridge} {port} {spot} at = subst (λ n. IsSlot s.plan n port spot.slot)
    (sym at.numbered) at.known.slot

pub receive_done : {s : Inside} {bridge port : ℕ} {spot : Spot} {old : BridgeView} {box : VecDeque Item Global}
    (new : BridgeView) (box' : VecDeque Item Global)
    → BridgeAt s bridge port spot old → box ≡ get_or s.inboxes.items spot.slot box
    → new.plan ≡ old.plan → new.number ≡ old.number → new.is_kept ≡ old.is_kept
    → HasReceivedFrom old port box.items new box'.items
    → IsDoneAs s (Receive bridge port) (set s.bridges.items spot.place new) s.lanes.items s.customers.items
    (map items_in (set s.inboxes.items spot.slot box')) (outs_of s)
receive_done {s} {bridge} {port} {spot} {old} {box} new box' at value of_plan number is_kept moved =
    let step : Step = Received port moved.item moved.learnt moved.outcome moved.moved in
    let there = inbox_at at value ∙ ap (λ z. Some z) moved.taken in
    rw (map-set items_in s.inboxes.items spot.slot box')
    (bridge_done new (Receive bridge port) step at of_plan number is_kept moved.fits moved.steps refl refl
    (after_receive s.plan (rec_in s) (ins_of s) (outs_of s) spot.place spot.slot port moved.item moved.learnt
    moved.outcome moved.moved box'.items at.keeps.2 at.known.there (slot_by_index at) there))

pub transmit_done : {s : Inside} {bridge port : ℕ} {spot : Spot} {old : BridgeView} {box : VecDeque Item Global}
    (new : BridgeView) (box' : VecDeque Item Global)
    → BridgeAt s bridge port spot old → box ≡ get_or s.outboxes.items spot.slot box
    → new.plan ≡ old.plan → new.number ≡ old.number → new.is_kept ≡ old.is_kept
    → HasTransmittedTo old port box.items new box'.items
    → IsDoneAs s (Transmit bridge port) (set s.bridges.items spot.place new) s.lanes.items s.customers.items
    (ins_of s) (map items_in (set s.outboxes.items spot.slot box'))
transmit_done {s} {bridge} {port} {spot} {old} {box} new box' at value of_plan number is_kept moved =
    rw (map-set items_in s.outboxes.items spot.slot box', moved.queued)
    (bridge_done new (Transmit bridge port) (Transmitted port moved.item) at of_plan number is_kept moved.fits
    moved.steps refl refl
    (after_transmit s.plan (rec_in s) (ins_of s) (outs_of s) spot.place spot.slot port moved.item box.items at.keeps.2
    at.known.there (slot_by_index at) (outbox_at at value)))

pub take_done : {s : Inside} {lane : ℕ} {spot : Spot} {old : LaneView} {box : VecDeque Item Global} (new : LaneView)
    (box' : VecDeque Item Global)
    → StartAt s lane spot old → box ≡ get_or s.outboxes.items spot.slot box
    → new.losses ≡ old.losses → new.is_kept ≡ old.is_kept → IsLawfulLane new.losses new.steps
    → HasTakenFrom old box.items new box'.items
    → IsDoneAs s (Take lane) s.bridges.items (set s.lanes.items spot.place new) s.customers.items (ins_of s)
    (map items_in (set s.outboxes.items spot.slot box'))
take_done {s} {lane} {spot} {old} {box} new box' at value losses is_kept lawful moved =
    let start : IsLaneStart s.plan (suc spot.place) spot = subst (λ n. IsLaneStart s.plan n spot)
    (sym at.numbered) at.known in
    let there = outbox_at at value ∙ ap (λ z. Some z) moved.taken in
    rw (map-set items_in s.outboxes.items spot.slot box')
    (lane_done new (Take lane) (taking old moved.item) at losses is_kept lawful moved.steps tt refl
    (after_take s.plan (rec_in s) (ins_of s) (outs_of s) spot.place spot.slot _ moved.item _ start.link box'.items
    at.keeps.0.sound at.keeps.2 at.known.there start.planned start.from there))

pub put_done : {s : Inside} {lane : ℕ} {spot : Spot} {old : LaneView} {box : VecDeque Item Global} (new : LaneView)
    (box' : VecDeque Item Global)
    → EndAt s lane spot old → box ≡ get_or s.inboxes.items spot.slot box
    → new.losses ≡ old.losses → new.is_kept ≡ old.is_kept → IsLawfulLane new.losses new.steps
    → HasPutInto old box.items new box'.items
    → IsDoneAs s (Put lane) s.bridges.items (set s.lanes.items spot.place new) s.customers.items
    (map items_in (set s.inboxes.items spot.slot box')) (outs_of s)
put_done {s} {lane} {spot} {old} {box} new box' at value losses is_kept lawful moved =
    let end : IsLaneEnd s.plan (suc spot.place) spot = subst (λ n. IsLaneEnd s.plan n spot)
    (sym at.numbered) at.known in
    rw (map-set items_in s.inboxes.items spot.slot box', moved.queued)
    (lane_done new (Put lane) (Put_on moved.item) at losses is_kept lawful moved.steps tt refl
    (after_put s.plan (rec_in s) (ins_of s) (outs_of s) spot.place spot.slot moved.item end.link box.items
    at.keeps.0.sound at.keeps.2 at.known.there end.planned end.to (inbox_at at value)))

-- `IsDoneAs` for a bridge's step that changes no queue
quiet_done : {s : Inside} {bridge port : ℕ} {spot : Spot} {old : BridgeView} (new : BridgeView) (event : Event)
    (step : Step)
    → BridgeAt s bridge port spot old
    → new ≡ with_bridge_step old step → Fits spanning_tree old.plan old.number old.steps step
    → ((port : ℕ) → received_by port step ≡ []) → ((port : ℕ) → transmitted_by port step ≡ []) → IsStepOf event step
    → Bridge bridge ≡ place_of event
    → IsDoneAs s event (set s.bridges.items spot.place new) s.lanes.items s.customers.items (ins_of s) (outs_of s)
quiet_done {s} {bridge} {port} {spot} {old} new event step at is_new fits receives transmits is_step place =
    let of_plan = ap (λ (v : BridgeView). v.plan) is_new in
    let number = ap (λ (v : BridgeView). v.number) is_new in
    let is_kept = ap (λ (v : BridgeView). v.is_kept) is_new in
    let steps = ap (λ (v : BridgeView). v.steps) is_new in
    bridge_done new event step at of_plan number is_kept fits steps is_step place
    (after_quiet s.plan (rec_in s) (ins_of s) (outs_of s) spot.place step at.keeps.2 at.known.there receives
    transmits)

pub tick_done : {s : Inside} {bridge port : ℕ} {spot : Spot} {old : BridgeView} (new : BridgeView)
    → BridgeAt s bridge port spot old → HasTicked old new
    → IsDoneAs s (Tick bridge) (set s.bridges.items spot.place new) s.lanes.items s.customers.items (ins_of s)
    (outs_of s)
tick_done {s} {bridge} {port} {spot} {old} new at ticked =
    quiet_done new (Tick bridge) (Ticked (now_after old.steps + 1) ticked.0) at ticked.1 ticked.2 (λ q. refl)
    (λ q. refl) tt refl

pub admin_done : {s : Inside} {bridge port : ℕ} {spot : Spot} {old : BridgeView} (up : Bool) (new : BridgeView)
    → BridgeAt s bridge port spot old → HasSet old port up new
    → IsDoneAs s (Admin bridge port up) (set s.bridges.items spot.place new) s.lanes.items s.customers.items
    (ins_of s) (outs_of s)
admin_done {s} {bridge} {port} up new at has_set =
    quiet_done new (Admin bridge port up) (Administered port up has_set.0) at has_set.1 has_set.2 (λ q. refl)
    (λ q. refl) (refl, refl) refl
