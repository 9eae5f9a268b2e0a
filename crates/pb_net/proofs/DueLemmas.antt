-- Shows that the tests of an event on the network's fields decide whether it is due.
use Rattle.std.proofs.Common.{◌≡◌, ℕ, ◌+◌, ◌<◌, Bool, true, false, not, ◌||◌, ◌&&◌, ◌==◌, nat_le, List}
use Rattle.std.proofs.Common.{◌++◌, Some, None, Ok, Err, map, length, get_or, sym, ap, ap₂, subst, ◌∙◌, arith}
use Rattle.std.proofs.Common.{length-append, Global, is_some, ne_eqb}
use Rattle.std.proofs.lemmas.Bool.Decides.{nat_tests}
use Rattle.std.specs.declared.collections.VecDeque.{VecDeque}
use Rattle.std.specs.declared.option.Option.{Option}
use Rattle.std.specs.declared.result.Result.{Result}
use Rattle.pb_lan.proofs.Numbers.{numbered-exists}
use Rattle.pb_lan.specs.Events.{names_something, is_idle, is_at_limit, is_hand_empty, is_ring_full, is_all_fetched}
use Rattle.pb_lan.specs.Events.{is_feed_idle, is_deliver_idle, is_take_idle, is_put_idle, sent_to, fetched_from}
use Rattle.pb_lan.specs.Events.{begins_at, ends_at}
use Rattle.pb_lan.specs.LaneLists.{taken, put}
use Rattle.pb_lan.specs.Numbering.{numbered}
use Rattle.pb_lan.specs.PortLists.{fed, delivered}
use Rattle.pb_lan.specs.Queues.{Waiting, waiting}
use Rattle.pb_lan.specs.Records.{steps_of, received, transmitted}
use Rattle.pb_lan.specs.declared.event.Event.{Event}
use Rattle.pb_lan.specs.declared.event.Event.TheVariants.{Poll, Feed, Deliver, Receive, Transmit, Take, Put}
use Rattle.pb_lan.specs.declared.plan.Plan.{Plan}
use Rattle.pb_lan.specs.declared.plan.CustomerPlan.{CustomerPlan}
use Rattle.pb_lan.specs.declared.plan.LinkPlan.{LinkPlan}
use Rattle.pb_lan.specs.declared.record.Record.{Record}
use Rattle.pb_lan.specs.declared.step.Item.{Item}
use Rattle.pb_lan.specs.declared.step.Step.{Step}
use Rattle.pb_link.specs.Hands.{PlaceView}
use Rattle.pb_link.specs.Lanes.{LaneView, is_hand_empty as is_lane_empty}
use Rattle.pb_relay.specs.Standing.{BridgeView}
use Rattle.pb_net.specs.Answers.{NetView, IsDue}
use Rattle.pb_net.specs.Dues.{IsSifted, IsDueOr}
use Rattle.pb_net.specs.Nets.{IsKept}
use Rattle.pb_net.specs.Slots.{IsSlot, items_at}
use Rattle.pb_net.specs.declared.fault.NetFault.{NetFault}
use Rattle.pb_net.specs.declared.fault.NetFault.TheVariants.{StepLimit, Memory, NoSuch}
use Rattle.pb_net.specs.declared.net.Net.TheInside.{Inside}
use Rattle.pb_net.specs.declared.slots.Spot.{Spot}
use Rattle.pb_net.proofs.KnownSpots.{StandsAt, BridgeAt, CustomerAt, StartAt, EndAt, ins_of, outs_of, rec_in, shown}
use Rattle.pb_net.proofs.KnownSpots.{inbox_at, outbox_at}
use Rattle.pb_net.proofs.Meetings.{sent_to-customer, fetched_from-customer, sent_to-lane, fetched_from-lane}
use Rattle.pb_net.proofs.OneMore.{items_at-here}

-- `≤` is unchanged by a number added to both sides
le_shifted : (a b c : ℕ) → nat_le (a + b) (a + c) ≡ nat_le b c
le_shifted a b c = grind (arith, nat_tests)

-- a length at most 0 is 0
none_there : (n : ℕ) → nat_le n 0 ≡ (n == 0)
none_there n = grind (arith, nat_tests)

-- the record says that a ring is full exactly if the length of the queue is at least the size of the ring
ring_full_is : (plan : Plan) (sent got left box : List Item) (ring : ℕ) → got ++ left ≡ sent → left ≡ box
    → ring ≡ plan.ring
    → is_ring_full plan sent got ≡ nat_le ring (length box)
ring_full_is plan sent got left box ring e here places =
    let n : length sent ≡ length got + length left = sym (ap length e) ∙ length-append got left in
    ap (nat_le (length got + plan.ring)) n ∙ le_shifted (length got) plan.ring (length left)
    ∙ ap₂ nat_le (sym places) (ap length here)

all_fetched_is : (sent got left box : List Item) → got ++ left ≡ sent → left ≡ box
    → is_all_fetched sent got ≡ (length box == 0)
all_fetched_is sent got left box e here =
    let n : length sent ≡ length got + length left = sym (ap length e) ∙ length-append got left in
    let all : length got ≡ length got + 0 = omega arith in
    ap₂ nat_le n all ∙ le_shifted (length got) (length left) 0
    ∙ ap (λ (z : List Item). nat_le (length z) 0) here ∙ none_there (length box)

-- `IsSifted` for the tests of an event gives `IsDueOr`
sifted : {X : Type 0} (net : NetView) (event : Event) (idle limit : Bool) (place : X)
    (result : Result (Option X) NetFault)
    → names_something net.plan event ≡ true → is_idle net.plan net.rec event ≡ idle
    → is_at_limit net.plan net.rec event ≡ limit
    → IsSifted idle limit place result → IsDueOr net event result
sifted net event idle limit place (Ok None) named idle_so limit_so h = (named, idle_so ∙ h)
sifted net event idle limit place (Ok (Some r)) named idle_so limit_so h =
    record { named = named; busy = idle_so ∙ h.0; within = limit_so ∙ h.1 }
sifted net event idle limit place (Err StepLimit) named idle_so limit_so h = (named, idle_so ∙ h.0, limit_so ∙ h.1)
sifted net event idle limit place (Err Memory) named idle_so limit_so h = h
sifted net event idle limit place (Err NoSuch) named idle_so limit_so h = absurd h

-- the inbox of a slot is what was sent to its port and not received, the outbox what was transmitted there and not
-- fetched
pub into_at : (plan : Plan) (rec : Record) (ins outs : List (List Item)) (b q s : ℕ) → IsKept plan rec ins outs
    → IsSlot plan b q s
    → received q (steps_of rec.bridges b) ++ items_at ins s ≡ sent_to plan rec b q
into_at plan rec ins outs b q s kept at = rw (sym at.of_bridge, sym at.of_port) (kept.into s)

pub out_at : (plan : Plan) (rec : Record) (ins outs : List (List Item)) (b q s : ℕ) → IsKept plan rec ins outs
    → IsSlot plan b q s
    → fetched_from plan rec b q ++ items_at outs s ≡ transmitted q (steps_of rec.bridges b)
out_at plan rec ins outs b q s kept at = rw (sym at.of_bridge, sym at.of_port) (kept.out s)

-- an event that is due in the view is due in the network's fields
pub due_here : {net : NetView} {event : Event} (s : Inside) → shown s ≡ net → IsDue net event → IsDue (shown s) event
due_here {event = event} s view due = subst (λ (v : NetView). IsDue v event) (sym view) due

-- the sifted result for a place at a spot says whether the event is due, if the tests are those of the event
pub due_is : {X : Type 0} {net : NetView} {s : Inside} {steps : X → List Step} {places : List X} {number : ℕ}
    {IsSpot : Spot → Type 0} {spot : Spot} {x : X} {idle : Bool}
    → StandsAt s steps places number IsSpot spot x → (event : Event) (result : Result (Option Spot) NetFault)
    → shown s ≡ net → names_something net.plan event ≡ true → is_idle s.plan (rec_in s) event ≡ idle
    → is_at_limit s.plan (rec_in s) event ≡ (length (steps_of (map steps places) number) == s.plan.steps)
    → IsSifted idle (length (steps x) == s.limit) spot result → IsDueOr net event result
due_is {s = s} {steps = steps} {spot = spot} {x = x} {idle = idle} at event result view named idle_so limit_so sift =
    let limit = ap₂ (λ (ms : List Step) n. length ms == n) at.mine (sym at.keeps.4.steps) in
    let here = subst (λ (v : NetView). names_something v.plan event ≡ true) (sym view) named in
    subst (λ (v : NetView). IsDueOr v event result) view
    (sifted (shown s) event idle (length (steps x) == s.limit) spot result here idle_so (limit_so ∙ limit) sift)

-- the idle test of a Poll
pub idle_poll_is : {s : Inside} {port : ℕ} {spot : Spot} {p : PlaceView} → CustomerAt s port spot p → (frame : List ℕ)
    → is_idle s.plan (rec_in s) (Poll port frame) ≡ not (is_hand_empty p.steps)
idle_poll_is at frame = ap (λ (ms : List Step). not (is_hand_empty ms)) at.mine

-- the idle test of a Feed
pub idle_feed_is : {s : Inside} {port : ℕ} {spot : Spot} {p : PlaceView} {box : VecDeque Item Global}
    → CustomerAt s port spot p → box ≡ get_or s.inboxes.items spot.slot box
    → is_idle s.plan (rec_in s) (Feed port) ≡ (is_hand_empty p.steps || nat_le s.ring (length box.items))
idle_feed_is {s} {port} {spot} {p} {box} at value =
    let rec : Record = rec_in s in
    let c = at.known.slot.customer in
    let planned = at.known.slot.planned in
    let whole = into_at s.plan rec (ins_of s) (outs_of s) c.bridge c.port spot.slot at.keeps.2 at.known.slot.at
    ∙ sent_to-customer s.plan at.keeps.0.sound rec port c planned in
    ap (λ (o : Option CustomerPlan). is_feed_idle s.plan rec (steps_of rec.customers port) o) planned
    ∙ ap₂ ◌||◌ (ap is_hand_empty at.mine)
    (ring_full_is s.plan (fed (steps_of rec.customers port)) (received c.port (steps_of rec.bridges c.bridge))
    (items_at (ins_of s) spot.slot) box.items s.ring whole
    (items_at-here (ins_of s) spot.slot box.items (inbox_at at value)) at.keeps.4.places)

-- the idle test of a Deliver
pub idle_deliver_is : {s : Inside} {port : ℕ} {spot : Spot} {p : PlaceView} {box : VecDeque Item Global}
    → CustomerAt s port spot p → box ≡ get_or s.outboxes.items spot.slot box
    → is_idle s.plan (rec_in s) (Deliver port) ≡ (length box.items == 0)
idle_deliver_is {s} {port} {spot} {p} {box} at value =
    let rec : Record = rec_in s in
    let c = at.known.slot.customer in
    let planned = at.known.slot.planned in
    let whole = ap (λ (z : List Item). z ++ items_at (outs_of s) spot.slot)
    (sym (fetched_from-customer s.plan at.keeps.0.sound rec port c planned))
    ∙ out_at s.plan rec (ins_of s) (outs_of s) c.bridge c.port spot.slot at.keeps.2 at.known.slot.at in
    ap (λ (o : Option CustomerPlan). is_deliver_idle rec (steps_of rec.customers port) o) planned
    ∙ all_fetched_is (transmitted c.port (steps_of rec.bridges c.bridge)) (delivered (steps_of rec.customers port))
    (items_at (outs_of s) spot.slot) box.items whole
    (items_at-here (outs_of s) spot.slot box.items (outbox_at at value))

-- the idle test of a Receive
pub idle_receive_is : {s : Inside} {bridge port : ℕ} {spot : Spot} {b : BridgeView} {box : VecDeque Item Global}
    → BridgeAt s bridge port spot b → box ≡ get_or s.inboxes.items spot.slot box
    → is_idle s.plan (rec_in s) (Receive bridge port) ≡ (length box.items == 0)
idle_receive_is {s} {bridge} {port} {spot} {b} {box} at value =
    let rec : Record = rec_in s in
    all_fetched_is (sent_to s.plan rec bridge port) (received port (steps_of rec.bridges bridge))
    (items_at (ins_of s) spot.slot) box.items
    (into_at s.plan rec (ins_of s) (outs_of s) bridge port spot.slot at.keeps.2 at.known.slot)
    (items_at-here (ins_of s) spot.slot box.items (inbox_at at value))

-- a bridge at a spot has the network's plan and its number
pub bridge_is : {s : Inside} {bridge port : ℕ} {spot : Spot} {b : BridgeView} → BridgeAt s bridge port spot b
    → (b.plan ≡ s.plan) × (b.number ≡ bridge)
bridge_is {s} {bridge} {port} {spot} {b} at =
    (at.keeps.1.planned spot.place b at.here, at.keeps.1.bridge_numbers spot.place b at.here ∙ at.known.place)

-- the idle test of a Transmit
pub idle_transmit_is : {s : Inside} {bridge port : ℕ} {spot : Spot} {b : BridgeView} {box : VecDeque Item Global}
    → BridgeAt s bridge port spot b → box ≡ get_or s.outboxes.items spot.slot box
    → is_idle s.plan (rec_in s)
    (Transmit bridge port) ≡ ((length (waiting b.plan b.number port b.steps) == 0) || nat_le s.ring
    (length box.items))
idle_transmit_is {s} {bridge} {port} {spot} {b} {box} at value =
    let rec : Record = rec_in s in
    let is = bridge_is at in
    let waits : waiting s.plan bridge port (steps_of rec.bridges bridge) ≡ waiting b.plan b.number port b.steps =
    ap (waiting s.plan bridge port) at.mine ∙ sym (ap₂ (λ (p : Plan) n. waiting p n port b.steps) is.0 is.1) in
    ap₂ ◌||◌ (ap (λ (ws : List Waiting). nat_le (length ws) 0) waits
    ∙ none_there (length (waiting b.plan b.number port b.steps)))
    (ring_full_is s.plan (transmitted port (steps_of rec.bridges bridge)) (fetched_from s.plan rec bridge port)
    (items_at (outs_of s) spot.slot) box.items s.ring
    (out_at s.plan rec (ins_of s) (outs_of s) bridge port spot.slot at.keeps.2 at.known.slot)
    (items_at-here (outs_of s) spot.slot box.items (outbox_at at value)) at.keeps.4.places)

-- a lane whose index is in range is a lane of the plan
pub named_lane : (lane place lanes : ℕ) → place + 1 ≡ lane → place < lanes
    → (nat_le 1 lane && nat_le lane lanes) ≡ true
named_lane lane place lanes e within = grind (arith, nat_tests, e, within)

-- the idle test of a Take
pub idle_take_is : {s : Inside} {lane : ℕ} {spot : Spot} {l : LaneView} {box : VecDeque Item Global}
    → StartAt s lane spot l → box ≡ get_or s.outboxes.items spot.slot box
    → is_idle s.plan (rec_in s) (Take lane) ≡ (not (is_lane_empty l.steps) || (length box.items == 0))
idle_take_is {s} {lane} {spot} {l} {box} at value =
    let rec : Record = rec_in s in
    let from = begins_at lane at.known.link in
    let whole = ap (λ (z : List Item). z ++ items_at (outs_of s) spot.slot)
    (sym (fetched_from-lane s.plan at.keeps.0.sound rec lane at.known.link at.known.planned))
    ∙ out_at s.plan rec (ins_of s) (outs_of s) from.bridge from.port spot.slot at.keeps.2 at.known.from in
    ap (λ (o : Option LinkPlan). is_take_idle rec lane (steps_of rec.lanes lane) o) at.known.planned
    ∙ ap₂ ◌||◌ (ap (λ (ms : List Step). not (is_lane_empty ms)) at.mine)
    (all_fetched_is (transmitted from.port (steps_of rec.bridges from.bridge)) (taken (steps_of rec.lanes lane))
    (items_at (outs_of s) spot.slot) box.items whole
    (items_at-here (outs_of s) spot.slot box.items (outbox_at at value)))

-- the idle test of a Put
pub idle_put_is : {s : Inside} {lane : ℕ} {spot : Spot} {l : LaneView} {box : VecDeque Item Global}
    → EndAt s lane spot l → box ≡ get_or s.inboxes.items spot.slot box
    → is_idle s.plan (rec_in s) (Put lane) ≡ (is_lane_empty l.steps || nat_le s.ring (length box.items))
idle_put_is {s} {lane} {spot} {l} {box} at value =
    let rec : Record = rec_in s in
    let to = ends_at lane at.known.link in
    let whole = into_at s.plan rec (ins_of s) (outs_of s) to.bridge to.port spot.slot at.keeps.2 at.known.to
    ∙ sent_to-lane s.plan at.keeps.0.sound rec lane at.known.link at.known.planned in
    ap (λ (o : Option LinkPlan). is_put_idle s.plan rec lane (steps_of rec.lanes lane) o) at.known.planned
    ∙ ap₂ ◌||◌ (ap is_lane_empty at.mine)
    (ring_full_is s.plan (put (steps_of rec.lanes lane)) (received to.port (steps_of rec.bridges to.bridge))
    (items_at (ins_of s) spot.slot) box.items s.ring whole
    (items_at-here (ins_of s) spot.slot box.items (inbox_at at value)) at.keeps.4.places)

-- a bridge at a spot has a number of the plan
pub named_bridge : {s : Inside} {bridge port : ℕ} {spot : Spot} {b : BridgeView} → BridgeAt s bridge port spot b
    → is_some (numbered s.plan.bridges bridge) ≡ true
named_bridge {s} {bridge} {port} {spot} at = ap is_some (numbered-exists s.plan.bridges bridge
    (omega (arith, at.known.place), omega (arith, at.known.place, at.known.there))).1

-- a bridge's limit is the plan's
pub limit_is : {s : Inside} {bridge port : ℕ} {spot : Spot} {b : BridgeView} → BridgeAt s bridge port spot b
    → (length (steps_of (rec_in s).bridges bridge) == s.plan.steps) ≡ (length b.steps == b.plan.steps)
limit_is at = ap₂ (λ (ms : List Step) (p : Plan). length ms == p.steps) at.mine (sym (bridge_is at).0)

-- an event of a bridge below its limit is due if it is not idle
pub due_within : {s : Inside} {bridge port : ℕ} {spot : Spot} {b : BridgeView} → BridgeAt s bridge port spot b
    → (event : Event) → names_something s.plan event ≡ true → is_idle s.plan (rec_in s) event ≡ false
    → is_at_limit s.plan (rec_in s) event ≡ (length (steps_of (rec_in s).bridges bridge) == s.plan.steps)
    → (length b.steps ≡ b.plan.steps → ⊥) → IsDue (shown s) event
due_within at event named busy limit_so not_yet =
    record { named = named; busy = busy; within = limit_so ∙ limit_is at ∙ ne_eqb _ _ not_yet }
