-- A network at its start.
use Rattle.std.proofs.Common.{◌≡◌, ℕ, zero, suc, ◌+◌, ◌*◌, ◌%◌, ◌<◌, inl, inr, Bool, true, false, if◌then◌else◌}
use Rattle.std.proofs.Common.{◌||◌, ◌==◌, List, [], ◌∷◌, ◌++◌, Some, None, is_some, unwrap_or, map, length, slice_get}
use Rattle.std.proofs.Common.{refl, sym, ap, ap₂, subst, ◌∙◌, arith, length-append}
use Rattle.std.proofs.lemmas.List.{length-map}
use Rattle.std.specs.List.{list_any, AllByRecursion}
use Rattle.std.specs.Option.{option_map}
use Rattle.std.specs.declared.collections.VecDeque.{VecDeque}
use Rattle.std.specs.declared.option.Option.{Option}
use Rattle.std.specs.Global.{Global}
use Rattle.pb_frame.specs.Lists.{first}
use Rattle.pb_frame.proofs.Things.{each_more}
use Rattle.pb_lan.proofs.PortsInPlans.{sound-end}
use Rattle.pb_lan.proofs.StateLemmas.{is_some-first, is_some-ends}
use Rattle.pb_lan.specs.BridgeLists.{IsLawfulBridge}
use Rattle.pb_lan.specs.Events.{unstepped, empty_record, sent_by, sent_to, fetched_by, fetched_from, customer_there}
use Rattle.pb_lan.specs.Events.{lane_to, lane_from, begins_at, ends_at}
use Rattle.pb_lan.specs.LaneLists.{IsLawfulLane, taken, put}
use Rattle.pb_lan.specs.Numbering.{numbered}
use Rattle.pb_lan.specs.Plans.{IsSound}
use Rattle.pb_lan.specs.PortLists.{fed, delivered, IsLawfulPort}
use Rattle.pb_lan.specs.Ports.{Port, port_at, is_customer_at, is_end_at, all_ends, customer_or_else}
use Rattle.pb_lan.specs.Ports.{provider_or_unused}
use Rattle.pb_lan.specs.Ports.Port.{Customer, Provider, Unused}
use Rattle.pb_lan.specs.Records.{steps_of, received, transmitted, lane_ab, lane_ba}
use Rattle.pb_relay.specs.Protocol.{spanning_tree}
use Rattle.pb_lan.specs.declared.plan.CustomerPlan.{CustomerPlan}
use Rattle.pb_lan.specs.declared.plan.End.{End}
use Rattle.pb_lan.specs.declared.plan.LinkPlan.{LinkPlan}
use Rattle.pb_lan.specs.declared.plan.Plan.{Plan}
use Rattle.pb_lan.specs.declared.record.Record.{Record}
use Rattle.pb_lan.specs.declared.step.Item.{Item}
use Rattle.pb_lan.specs.declared.step.Step.{Step}
use Rattle.pb_link.specs.Hands.{PlaceView}
use Rattle.pb_link.specs.Lanes.{LaneView}
use Rattle.pb_relay.specs.Standing.{BridgeView}
use Rattle.pb_net.specs.Nets.{IsKept, ArePlaced, record_of}
use Rattle.pb_net.specs.Slots.{JoinsSlots, bridge_of, port_of, link_of, items_at, use_of, losses_at, losses_of}
use Rattle.pb_net.specs.Starts.{AreFreshBridges, AreFreshLanes, AreFreshCustomers, AreEmptyBoxes, AreUses}
use Rattle.pb_net.specs.Starts.{AreLaneSlots, fresh_bridge, fresh_lane, fresh_customer}
use Rattle.pb_net.specs.declared.slots.LaneSlots.{LaneSlots}
use Rattle.pb_net.specs.declared.slots.PortUse.{PortUse}
use Rattle.pb_net.specs.declared.slots.PortUse.TheVariants.{ToCustomer, ToBridge, ToNobody}
use Rattle.pb_net.proofs.KnownSpots.{items_in, rec_of}
use Rattle.pb_net.proofs.Lanes.{ab_link, ba_link, ab_odd, ba_even, begins_at-end, ends_at-end}
use Rattle.pb_net.proofs.SpotLemmas.{slot_of, slot_there}

pub fresh_bridges-more : (plan : Plan) (is_kept : Bool) (n : ℕ) (bridges : List BridgeView) (b : BridgeView)
    → AreFreshBridges plan is_kept n bridges → b ≡ fresh_bridge plan is_kept (n + 1)
    → AreFreshBridges plan is_kept (n + 1) (bridges ++ b ∷ [])
fresh_bridges-more plan is_kept n bridges b are e = record {
  counted = omega (arith, are.counted, length-append bridges (b ∷ []));
  fresh = each_more (λ r x. x ≡ fresh_bridge plan is_kept (r + 1)) bridges b are.fresh (rw are.counted e);
}

pub fresh_customers-more : (is_kept : Bool) (n : ℕ) (customers : List PlaceView) (p : PlaceView)
    → AreFreshCustomers is_kept n customers
    → p ≡ fresh_customer is_kept (n + 1) → AreFreshCustomers is_kept (n + 1) (customers ++ p ∷ [])
fresh_customers-more is_kept n customers p are e = record {
  counted = omega (arith, are.counted, length-append customers (p ∷ []));
  fresh = each_more (λ r x. x ≡ fresh_customer is_kept (r + 1)) customers p are.fresh (rw are.counted e);
}

-- a property by index holds of a list extended by two lanes
lanes-more : {X : Type 0} (P : ℕ → X → Type 0) (xs : List X) (k : ℕ) (a b : X) → length xs ≡ 2 * k
    → ((r : ℕ) (x : X) → slice_get xs r ≡ Some x → P (r + 1) x) → P (lane_ab (suc k)) a → P (lane_ba (suc k)) b
    → (length ((xs ++ a ∷ []) ++ b ∷ []) ≡ 2 * (k + 1))
    × ((r : ℕ) (x : X) → slice_get ((xs ++ a ∷ []) ++ b ∷ []) r ≡ Some x → P (r + 1) x)
lanes-more P xs k a b count each is_a is_b =
    let one : lane_ab (suc k) ≡ length xs + 1 = omega (arith, count) in
    let two : lane_ba (suc k) ≡ length (xs ++ a ∷ []) + 1 = omega (arith, count, length-append xs (a ∷ [])) in (
      omega (arith, count, length-append xs (a ∷ []), length-append (xs ++ a ∷ []) (b ∷ [])),
      each_more (λ r x. P (r + 1) x) (xs ++ a ∷ []) b
          (each_more (λ r x. P (r + 1) x) xs a each (subst (λ n. P n a) one is_a)) (subst (λ n. P n b) two is_b),
    )

-- the losses of a link's lane
lane_losses : (plan : Plan) (k lane : ℕ) (link : LinkPlan) (odd : Bool) → slice_get plan.links k ≡ Some link
    → link_of lane ≡ suc k → (lane % 2 == 1) ≡ odd
    → losses_of plan lane ≡ (if odd then link.lost_ab else link.lost_ba)
lane_losses plan k lane link odd at of_link is =
    ap (λ n. unwrap_or (option_map (losses_at lane) (numbered plan.links n)) []) of_link
    ∙ ap (λ (o : Option LinkPlan). unwrap_or (option_map (losses_at lane) o) []) at
    ∙ ap (λ (t : Bool). if t then link.lost_ab else link.lost_ba) is

pub fresh_lanes-more : (plan : Plan) (is_kept : Bool) (k : ℕ) (link : LinkPlan) (lanes : List LaneView) (a b : LaneView)
    → slice_get plan.links k ≡ Some link → AreFreshLanes plan is_kept (2 * k) lanes
    → a ≡ fresh_lane is_kept link.lost_ab → b ≡ fresh_lane is_kept link.lost_ba
    → AreFreshLanes plan is_kept (2 * (k + 1)) ((lanes ++ a ∷ []) ++ b ∷ [])
fresh_lanes-more plan is_kept k link lanes a b at are is_a is_b =
    let more = lanes-more (λ n l. l ≡ fresh_lane is_kept (losses_of plan n)) lanes k a b are.counted are.fresh
    (is_a ∙ ap (fresh_lane is_kept) (sym (lane_losses plan k (lane_ab (suc k)) link true at (ab_link k) (ab_odd k))))
    (is_b ∙ ap (fresh_lane is_kept)
    (sym (lane_losses plan k (lane_ba (suc k)) link false at (ba_link k) (ba_even k)))) in
    record { counted = more.0; fresh = more.1 }

-- the ends of a link have numbers in range
pub ends_numbered : (plan : Plan) (k : ℕ) (link : LinkPlan) → IsSound plan → slice_get plan.links k ≡ Some link
    → (0 < link.a.bridge) × (0 < link.a.port) × (0 < link.b.bridge) × (0 < link.b.port)
ends_numbered plan k link sound at =
    let a = sound-end plan sound (suc k) link link.a at (inl refl) in
    let b = sound-end plan sound (suc k) link link.b at (inr refl) in
    (omega (arith, a.bridge), omega (arith, a.port), omega (arith, b.bridge), omega (arith, b.port))

-- the slots of a link's lane, of which the odd one begins at the first end
abbrev slots_by : LinkPlan → Bool → LaneSlots
slots_by link odd =
    record { from = slot_of (if odd then link.a else link.b); to = slot_of (if odd then link.b else link.a) }

lane_joins : (plan : Plan) (k lane : ℕ) (link : LinkPlan) (odd : Bool) (slots : LaneSlots) → IsSound plan
    → slice_get plan.links k ≡ Some link → link_of lane ≡ suc k → (lane % 2 == 1) ≡ odd → slots ≡ slots_by link odd
    → JoinsSlots plan lane slots
lane_joins plan k lane link odd slots sound at of_link is e =
    let from = begins_at lane link in
    let to = ends_at lane link in
    let here : numbered plan.links (link_of lane) ≡ Some link = ap (λ n. numbered plan.links n) of_link ∙ at in
    let a = sound-end plan sound (link_of lane) link from here (begins_at-end lane link) in
    let b = sound-end plan sound (link_of lane) link to here (ends_at-end lane link) in
    subst (JoinsSlots plan lane) (ap (slots_by link) is ∙ sym e) (record {
      link = link;
      planned = here;
      from = slot_there plan from.bridge from.port a.bridge a.port;
      to = slot_there plan to.bridge to.port b.bridge b.port;
    })

pub lane_slots-more : (plan : Plan) (k : ℕ) (link : LinkPlan) (slots : List LaneSlots) (a b : LaneSlots)
    → IsSound plan → slice_get plan.links k ≡ Some link → AreLaneSlots plan (2 * k) slots
    → a ≡ record { from = slot_of link.a; to = slot_of link.b }
    → b ≡ record { from = slot_of link.b; to = slot_of link.a }
    → AreLaneSlots plan (2 * (k + 1)) ((slots ++ a ∷ []) ++ b ∷ [])
lane_slots-more plan k link slots a b sound at are is_a is_b =
    let more = lanes-more (JoinsSlots plan) slots k a b are.counted are.joined
    (lane_joins plan k (lane_ab (suc k)) link true a sound at (ab_link k) (ab_odd k) is_a)
    (lane_joins plan k (lane_ba (suc k)) link false b sound at (ba_link k) (ba_even k) is_b) in
    record { counted = more.0; joined = more.1 }

-- the table of neighbours extended by one slot
pub uses-more : (plan : Plan) (s : ℕ) (uses : List PortUse) (who : PortUse) → AreUses plan s uses
    → who ≡ use_of (port_at plan (bridge_of s) (port_of s)) → AreUses plan (s + 1) (uses ++ who ∷ [])
uses-more plan s uses who are is_use = record {
  counted = omega (arith, are.counted, length-append uses (who ∷ []));
  told = each_more (λ r x. x ≡ use_of (port_at plan (bridge_of r) (port_of r))) uses who are.told
      (is_use ∙ ap (λ n. use_of (port_at plan (bridge_of n) (port_of n))) (sym are.counted));
}

-- the neighbour at a port
use_by : (c : Option CustomerPlan) (e : Option End)
    → use_of (customer_or_else c (provider_or_unused e))
    ≡ (if is_some c then ToCustomer else (if is_some e then ToBridge else ToNobody))
use_by (Some c) e = refl
use_by None (Some d) = refl
use_by None None = refl

pub use_told : (plan : Plan) (b q : ℕ) (customer end : Bool) → list_any (is_customer_at b q) plan.customers ≡ customer
    → list_any (λ l. is_end_at b q l.a || is_end_at b q l.b) plan.links ≡ end
    → (if customer then ToCustomer else (if end then ToBridge else ToNobody)) ≡ use_of (port_at plan b q)
use_told plan b q customer end is_customer is_end =
    sym (use_by (first (is_customer_at b q) plan.customers) (first (is_end_at b q) (all_ends plan))
    ∙ ap₂ (λ (c e : Bool). if c then ToCustomer else (if e then ToBridge else ToNobody))
    (is_some-first (is_customer_at b q) plan.customers ∙ is_customer)
    (is_some-ends (is_end_at b q) plan.links ∙ is_end))

-- the lists of places without steps are all empty
unstepped-map : {X Y : Type 0} (f : X → List Step) (xs : List X) (ys : List Y) → length xs ≡ length ys
    → ((r : ℕ) (x : X) → slice_get xs r ≡ Some x → f x ≡ []) → map f xs ≡ unstepped ys
unstepped-map f [] [] e each = refl
unstepped-map f [] (y ∷ ys) e each = absurd (omega (arith, e))
unstepped-map f (x ∷ xs) [] e each = absurd (omega (arith, e))
unstepped-map f (x ∷ xs) (y ∷ ys) e each =
    let tail : length xs ≡ length ys = omega (arith, e) in
    let rest = unstepped-map f xs ys tail (λ r z h. each (suc r) z h) in
    let head = each 0 x refl in
    cc

all_empty : {X Y : Type 0} (f : X → List Y) (xs : List X) → ((r : ℕ) (x : X) → slice_get xs r ≡ Some x → f x ≡ [])
    → (n : ℕ) → unwrap_or (slice_get (map f xs) n) [] ≡ []
all_empty f [] each n = refl
all_empty f (x ∷ xs) each zero = each 0 x refl
all_empty f (x ∷ xs) each (suc n) = all_empty f xs (λ r z h. each (suc r) z h) n

all_unstepped : {X : Type 0} (f : X → List Step) (xs : List X)
    → ((r : ℕ) (x : X) → slice_get xs r ≡ Some x → f x ≡ []) → (n : ℕ) → steps_of (map f xs) n ≡ []
all_unstepped f xs each zero = refl
all_unstepped f xs each (suc n) = all_empty f xs each n

unstepped-append : {X : Type 0} (xs ys : List X) → unstepped (xs ++ ys) ≡ unstepped xs ++ unstepped ys
unstepped-append [] ys = refl
unstepped-append (x ∷ xs) ys = ap (λ (z : List (List Step)). [] ∷ z) (unstepped-append xs ys)

-- a property that holds at each index holds of all
all_by_each : {X : Type 0} (P : X → Type 0) (xs : List X) → ((r : ℕ) (x : X) → slice_get xs r ≡ Some x → P x)
    → AllByRecursion P xs
all_by_each P [] each = tt
all_by_each P (x ∷ xs) each = (each 0 x refl, all_by_each P xs (λ r y h. each (suc r) y h))

-- the places of a new network are those of the plan
pub fresh_placed : (plan : Plan) (is_kept : Bool) (bridges : List BridgeView) (lanes : List LaneView)
    (customers : List PlaceView)
    → AreFreshBridges plan is_kept (length plan.bridges) bridges
    → AreFreshLanes plan is_kept (2 * length plan.links) lanes
    → AreFreshCustomers is_kept (length plan.customers) customers
    → ArePlaced plan is_kept bridges lanes customers
fresh_placed plan is_kept bridges lanes customers bs ls cs = record {
  bridge_count = bs.counted;
  lane_count = ls.counted;
  customer_count = cs.counted;
  planned = λ r b h. ap (λ (x : BridgeView). x.plan) (bs.fresh r b h);
  bridge_numbers = λ r b h. ap (λ (x : BridgeView). x.number) (bs.fresh r b h);
  kept_bridges = all_by_each (λ b. b.is_kept ≡ is_kept) bridges
      (λ r b h. ap (λ (x : BridgeView). x.is_kept) (bs.fresh r b h));
  kept_lanes = all_by_each (λ l. l.is_kept ≡ is_kept) lanes
      (λ r l h. ap (λ (x : LaneView). x.is_kept) (ls.fresh r l h));
  kept_customers = all_by_each (λ p. p.is_kept ≡ is_kept) customers
      (λ r p h. ap (λ (x : PlaceView). x.is_kept) (cs.fresh r p h));
  lane_losses = λ r l h. ap (λ (x : LaneView). x.losses) (ls.fresh r l h);
  customer_numbers = λ r p h. ap (λ (x : PlaceView). x.number) (cs.fresh r p h);
}

-- nothing is sent and nothing fetched if no place has taken a step
no_sent : (plan : Plan) (rec : Record) (b q : ℕ) → ((n : ℕ) → steps_of rec.customers n ≡ [])
    → ((n : ℕ) → steps_of rec.lanes n ≡ []) → sent_to plan rec b q ≡ []
no_sent plan rec b q customers lanes = by (port_at plan b q)
  where
    by : (p : Port) → sent_by plan rec b q p ≡ []
    by (Customer c) = ap fed (customers (customer_there plan b q))
    by (Provider e) = ap put (lanes (lane_to plan b q))
    by Unused = refl

no_fetched : (plan : Plan) (rec : Record) (b q : ℕ) → ((n : ℕ) → steps_of rec.customers n ≡ [])
    → ((n : ℕ) → steps_of rec.lanes n ≡ []) → fetched_from plan rec b q ≡ []
no_fetched plan rec b q customers lanes = by (port_at plan b q)
  where
    by : (p : Port) → fetched_by plan rec b q p ≡ []
    by (Customer c) = ap delivered (customers (customer_there plan b q))
    by (Provider e) = ap taken (lanes (lane_from plan b q))
    by Unused = refl

-- the invariant of a new network: no steps, and empty queues
pub fresh_kept : (plan : Plan) (is_kept : Bool) (bridges : List BridgeView) (lanes : List LaneView)
    (customers : List PlaceView)
    (ins outs : List (VecDeque Item Global))
    → AreFreshBridges plan is_kept (length plan.bridges) bridges
    → AreFreshLanes plan is_kept (2 * length plan.links) lanes
    → AreFreshCustomers is_kept (length plan.customers) customers
    → AreEmptyBoxes (16 * length plan.bridges) ins → AreEmptyBoxes (16 * length plan.bridges) outs
    → IsKept plan (record_of bridges lanes customers) (map items_in ins) (map items_in outs)
fresh_kept plan is_kept bridges lanes customers ins outs bs ls cs is os =
    let rec : Record = record_of bridges lanes customers in
    let bridge : (n : ℕ) → steps_of rec.bridges n ≡ [] = all_unstepped (λ (b : BridgeView). b.steps) bridges
    (λ r b h. ap (λ (x : BridgeView). x.steps) (bs.fresh r b h)) in
    let lane : (n : ℕ) → steps_of rec.lanes n ≡ [] = all_unstepped (λ (l : LaneView). l.steps) lanes
    (λ r l h. ap (λ (x : LaneView). x.steps) (ls.fresh r l h)) in
    let customer : (n : ℕ) → steps_of rec.customers n ≡ [] = all_unstepped (λ (p : PlaceView). p.steps) customers
    (λ r p h. ap (λ (x : PlaceView). x.steps) (cs.fresh r p h)) in
    let inbox : (n : ℕ) → items_at (map items_in ins) n ≡ [] = all_empty items_in ins is.empty in
    let outbox : (n : ℕ) → items_at (map items_in outs) n ≡ [] = all_empty items_in outs os.empty in
    record {
      bridge_count = length-map bridges (λ (b : BridgeView). b.steps) ∙ bs.counted;
      lane_count = length-map lanes (λ (l : LaneView). l.steps) ∙ ls.counted;
      customer_count = length-map customers (λ (p : PlaceView). p.steps) ∙ cs.counted;
      inbox_count = length-map ins items_in ∙ is.counted;
      outbox_count = length-map outs items_in ∙ os.counted;
      bridges = λ n. subst (λ (ms : List Step). IsLawfulBridge spanning_tree plan n ms) (sym (bridge n)) tt;
      lanes = λ n. subst (λ (ms : List Step). IsLawfulLane (losses_of plan n) ms) (sym (lane n))
          (record { kinds = tt; counted = tt; held = (None, refl) });
      ports = λ n. subst (λ (ms : List Step). IsLawfulPort n ms) (sym (customer n))
          (record { kinds = tt; marked = tt; held = (None, refl) });
      into = λ s. ap (λ (ms : List Step). received (port_of s) ms ++ items_at (map items_in ins) s)
          (bridge (bridge_of s)) ∙ inbox s ∙ sym (no_sent plan rec (bridge_of s) (port_of s) customer lane);
      out = λ s. ap (λ (z : List Item). z ++ items_at (map items_in outs) s)
          (no_fetched plan rec (bridge_of s) (port_of s) customer lane) ∙ outbox s
          ∙ ap (transmitted (port_of s)) (sym (bridge (bridge_of s)));
    }

pub fresh_record : (plan : Plan) (is_kept : Bool) (bridges : List BridgeView) (lanes : List LaneView)
    (customers : List PlaceView)
    → AreFreshBridges plan is_kept (length plan.bridges) bridges
    → AreFreshLanes plan is_kept (2 * length plan.links) lanes
    → AreFreshCustomers is_kept (length plan.customers) customers
    → record_of bridges lanes customers ≡ empty_record plan
fresh_record plan is_kept bridges lanes customers bs ls cs =
    let b = unstepped-map (λ (b : BridgeView). b.steps) bridges plan.bridges bs.counted
    (λ r b h. ap (λ (x : BridgeView). x.steps) (bs.fresh r b h)) in
    let c = unstepped-map (λ (p : PlaceView). p.steps) customers plan.customers cs.counted
    (λ r p h. ap (λ (x : PlaceView). x.steps) (cs.fresh r p h)) in
    let twice : length lanes ≡ length (plan.links ++ plan.links) =
    omega (arith, ls.counted, length-append plan.links plan.links) in
    let l = unstepped-map (λ (l : LaneView). l.steps) lanes (plan.links ++ plan.links) twice
    (λ r l h. ap (λ (x : LaneView). x.steps) (ls.fresh r l h)) ∙ unstepped-append plan.links plan.links in
    ap (λ (x : List (List Step)). rec_of x (map (λ (l : LaneView). l.steps) lanes)
    (map (λ (p : PlaceView). p.steps) customers)) b
    ∙ ap (λ (x : List (List Step)). rec_of (unstepped plan.bridges) x (map (λ (p : PlaceView). p.steps) customers)) l
    ∙ ap (λ (x : List (List Step)). rec_of (unstepped plan.bridges) (unstepped plan.links ++ unstepped plan.links) x)
    c
