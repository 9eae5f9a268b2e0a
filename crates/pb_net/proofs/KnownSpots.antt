-- The invariant of a network by its fields, and what is known of a spot among them.
use Rattle.std.proofs.Common.{◌≡◌, ℕ, suc, ◌+◌, ◌*◌, ◌<◌, List, Some, map, length, slice_get, get_or, sym, ap, subst}
use Rattle.std.proofs.Common.{◌∙◌, arith, Global}
use Rattle.std.proofs.lemmas.List.{length-map}
use Rattle.std.proofs.Math.ListN.{set}
use Rattle.std.specs.declared.collections.VecDeque.{VecDeque}
use Rattle.pb_frame.proofs.Things.{here_is, part_at}
use Rattle.pb_lan.specs.Records.{steps_of}
use Rattle.pb_lan.specs.declared.record.Record.{Record}
use Rattle.pb_lan.specs.declared.step.Item.{Item}
use Rattle.pb_lan.specs.declared.step.Step.{Step}
use Rattle.pb_link.specs.Hands.{PlaceView}
use Rattle.pb_link.specs.Lanes.{LaneView}
use Rattle.pb_relay.specs.Standing.{BridgeView}
use Rattle.pb_net.specs.Answers.{NetView}
use Rattle.pb_net.specs.Lists.{AreEmpty}
use Rattle.pb_net.specs.Nets.{IsSoundPlan, ArePlaced, IsKept, HasNumbers, record_of}
use Rattle.pb_net.specs.Slots.{AreTables, IsBridgeSpot, IsCustomerSpot, IsLaneStart, IsLaneEnd}
use Rattle.pb_net.specs.declared.net.Net.TheInside.{Inside}
use Rattle.pb_net.specs.declared.slots.Spot.{Spot}
use Rattle.pb_net.proofs.OneMore.{steps_of-map, map-set_kept}

-- the items of a queue
abbrev pub items_in : VecDeque Item Global → List Item
items_in q = q.items

-- the items of a network's inboxes and outboxes
abbrev pub ins_of : Inside → List (List Item)
ins_of s = map items_in s.inboxes.items

abbrev pub outs_of : Inside → List (List Item)
outs_of s = map items_in s.outboxes.items

abbrev pub rec_of : List (List Step) → List (List Step) → List (List Step) → Record
rec_of bridges lanes customers = record { bridges = bridges; lanes = lanes; customers = customers }

-- the record of its places, and the view that callers see
abbrev pub rec_in : Inside → Record
rec_in s = record_of s.bridges.items s.lanes.items s.customers.items

abbrev pub shown : Inside → NetView
shown s = record { plan = s.plan; rec = rec_in s; is_kept = s.is_kept }

-- the invariant, with these places and queues
abbrev pub KeepsAs : Inside → List BridgeView → List LaneView → List PlaceView → List (List Item) → List (List Item)
    → Type 0
KeepsAs s bridges lanes customers ins outs =
    IsSoundPlan s.plan
    × ArePlaced s.plan s.is_kept bridges lanes customers
    × IsKept s.plan (record_of bridges lanes customers) ins outs
    × AreTables s.plan s.slots
    × HasNumbers s.plan s.limit s.ring
    × AreEmpty (length s.plan.bridges) (2 * length s.plan.links) (length s.plan.customers) s.lists

abbrev pub Keeps : Inside → Type 0
Keeps s = KeepsAs s s.bridges.items s.lanes.items s.customers.items (ins_of s) (outs_of s)

-- A place is at a spot: the spot is the one that was searched, its slot is in range, and the place found at its index
-- has this number, with its steps in the record.
pub record StandsAt {X : Type 0} (s : Inside) (steps : X → List Step) (places : List X) (number : ℕ)
    (IsSpot : Spot → Type 0) (spot : Spot) (x : X) : Type 0 where
  pub keeps : Keeps s
  pub known : IsSpot spot
  pub within : spot.slot < 16 * length s.plan.bridges
  pub numbered : suc spot.place ≡ number
  pub here : slice_get places spot.place ≡ Some x
  pub mine : steps_of (map steps places) number ≡ steps x

abbrev pub BridgeAt : Inside → ℕ → ℕ → Spot → BridgeView → Type 0
BridgeAt s bridge port = StandsAt s (λ (b : BridgeView). b.steps) s.bridges.items bridge
    (IsBridgeSpot s.plan bridge port)

abbrev pub CustomerAt : Inside → ℕ → Spot → PlaceView → Type 0
CustomerAt s port = StandsAt s (λ (p : PlaceView). p.steps) s.customers.items port (IsCustomerSpot s.plan port)

abbrev pub StartAt : Inside → ℕ → Spot → LaneView → Type 0
StartAt s lane = StandsAt s (λ (l : LaneView). l.steps) s.lanes.items lane (IsLaneStart s.plan lane)

abbrev pub EndAt : Inside → ℕ → Spot → LaneView → Type 0
EndAt s lane = StandsAt s (λ (l : LaneView). l.steps) s.lanes.items lane (IsLaneEnd s.plan lane)

-- the place found at an index in range is at its spot
stands_at : {X : Type 0} (s : Inside) (steps : X → List Step) (places : List X) (number count : ℕ)
    (IsSpot : Spot → Type 0) (spot : Spot) (x : X)
    → Keeps s → IsSpot spot → spot.slot < 16 * length s.plan.bridges → length places ≡ count → spot.place < count
    → spot.place + 1 ≡ number → x ≡ get_or places spot.place x → StandsAt s steps places number IsSpot spot x
stands_at s steps places number count IsSpot spot x keeps known within counted there place value =
    let numbered : suc spot.place ≡ number = omega (arith, place) in
    let here = here_is places spot.place x (omega (arith, counted, there)) value in
    let mine = ap (λ n. steps_of (map steps places) n) (sym numbered) ∙ steps_of-map steps places spot.place x here in
    record { keeps = keeps; known = known; within = within; numbered = numbered; here = here; mine = mine }

-- `StandsAt` for each kind of spot, from the contract of the function that found it
pub bridge_at : {net : NetView} {bridge port : ℕ} {spot : Spot} {b : BridgeView} (s : Inside)
    → Keeps s → shown s ≡ net → IsBridgeSpot net.plan bridge port spot → b ≡ get_or s.bridges.items spot.place b
    → BridgeAt s bridge port spot b
bridge_at {net} {bridge} {port} {spot} {b} s keeps view told value =
    let known = subst (λ (v : NetView). IsBridgeSpot v.plan bridge port spot) (sym view) told in
    stands_at s _ s.bridges.items bridge _ (IsBridgeSpot s.plan bridge port) spot b keeps known known.slot.within
    keeps.1.bridge_count known.there known.place value

pub customer_at : {net : NetView} {port : ℕ} {spot : Spot} {p : PlaceView} (s : Inside)
    → Keeps s → shown s ≡ net → IsCustomerSpot net.plan port spot → p ≡ get_or s.customers.items spot.place p
    → CustomerAt s port spot p
customer_at {net} {port} {spot} {p} s keeps view told value =
    let known = subst (λ (v : NetView). IsCustomerSpot v.plan port spot) (sym view) told in
    stands_at s _ s.customers.items port _ (IsCustomerSpot s.plan port) spot p keeps known known.slot.at.within
    keeps.1.customer_count known.there known.place value

pub start_at : {net : NetView} {lane : ℕ} {spot : Spot} {l : LaneView} (s : Inside)
    → Keeps s → shown s ≡ net → IsLaneStart net.plan lane spot → l ≡ get_or s.lanes.items spot.place l
    → StartAt s lane spot l
start_at {net} {lane} {spot} {l} s keeps view told value =
    let known = subst (λ (v : NetView). IsLaneStart v.plan lane spot) (sym view) told in
    stands_at s _ s.lanes.items lane _ (IsLaneStart s.plan lane) spot l keeps known known.from.within
    keeps.1.lane_count known.there known.place value

pub end_at : {net : NetView} {lane : ℕ} {spot : Spot} {l : LaneView} (s : Inside)
    → Keeps s → shown s ≡ net → IsLaneEnd net.plan lane spot → l ≡ get_or s.lanes.items spot.place l
    → EndAt s lane spot l
end_at {net} {lane} {spot} {l} s keeps view told value =
    let known = subst (λ (v : NetView). IsLaneEnd v.plan lane spot) (sym view) told in
    stands_at s _ s.lanes.items lane _ (IsLaneEnd s.plan lane) spot l keeps known known.to.within keeps.1.lane_count
    known.there known.place value

-- a queue that was found by its slot
box_at : (boxes : List (VecDeque Item Global)) (r n : ℕ) (box : VecDeque Item Global)
    → length (map items_in boxes) ≡ n → r < n → box ≡ get_or boxes r box → slice_get boxes r ≡ Some box
box_at boxes r n box count within e = here_is boxes r box (omega (arith, length-map boxes items_in)) e

module _ {X : Type 0} {s : Inside} {steps : X → List Step} {places : List X} {number : ℕ} {IsSpot : Spot → Type 0}
    {spot : Spot} {x : X}
    (at : StandsAt s steps places number IsSpot spot x) where
  pub inbox_at : {box : VecDeque Item Global} → box ≡ get_or s.inboxes.items spot.slot box
      → slice_get (ins_of s) spot.slot ≡ Some box.items
  inbox_at {box} value = part_at items_in s.inboxes.items spot.slot box
      (box_at s.inboxes.items spot.slot _ box at.keeps.2.inbox_count at.within value)

  pub outbox_at : {box : VecDeque Item Global} → box ≡ get_or s.outboxes.items spot.slot box
      → slice_get (outs_of s) spot.slot ≡ Some box.items
  outbox_at {box} value = part_at items_in s.outboxes.items spot.slot box
      (box_at s.outboxes.items spot.slot _ box at.keeps.2.outbox_count at.within value)

  -- an inbox that holds the same items as before
  pub inbox_kept : {old : VecDeque Item Global} (new : VecDeque Item Global)
      → old ≡ get_or s.inboxes.items spot.slot old → new.items ≡ old.items
      → map items_in (set s.inboxes.items spot.slot new) ≡ ins_of s
  inbox_kept {old} new value same = map-set_kept items_in s.inboxes.items spot.slot old new
      (box_at s.inboxes.items spot.slot _ old at.keeps.2.inbox_count at.within value) same

  pub outbox_kept : {old : VecDeque Item Global} (new : VecDeque Item Global)
      → old ≡ get_or s.outboxes.items spot.slot old → new.items ≡ old.items
      → map items_in (set s.outboxes.items spot.slot new) ≡ outs_of s
  outbox_kept {old} new value same = map-set_kept items_in s.outboxes.items spot.slot old new
      (box_at s.outboxes.items spot.slot _ old at.keeps.2.outbox_count at.within value) same
