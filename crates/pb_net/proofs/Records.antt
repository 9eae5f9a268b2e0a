-- The invariant of a network makes its record lawful, and the outcomes of its events make a run.
use Rattle.std.proofs.Common.{◌≡◌, ℕ, zero, suc, ◌-◌, ◌%◌, ◌≤◌, Bool, true, false, if◌then◌else◌, nat_le, ◌==◌, ◌&&◌}
use Rattle.std.proofs.Common.{List, [], ◌∷◌, ◌++◌, Some, Ok, Err, is_some, unwrap_or, map, length, take, slice_get}
use Rattle.std.proofs.Common.{get_or, refl, sym, ap, subst, ◌∙◌, arith}
use Rattle.std.proofs.Math.Dec.{leb-zero, leb-suc-zero, leb-suc-suc}
use Rattle.std.proofs.lemmas.Bool.{leb-true}
use Rattle.std.specs.Option.{option_map}
use Rattle.std.specs.declared.option.Option.{Option}
use Rattle.std.specs.List.{AllByRecursion}
use Rattle.pb_frame.proofs.Lists.{and-left, and-right, All-at}
use Rattle.pb_frame.proofs.Things.{here_is}
use Rattle.pb_lan.proofs.Numbers.{numbered-All}
use Rattle.pb_lan.proofs.PortsInPlans.{sound-end}
use Rattle.pb_lan.specs.Events.{sent_to, fetched_from, begins_at, ends_at}
use Rattle.pb_lan.specs.LaneLists.{IsLawfulLane, taken, put}
use Rattle.pb_lan.specs.Numbering.{numbered}
use Rattle.pb_lan.specs.Plans.{IsSound, IsNumber, IsSoundCustomer}
use Rattle.pb_lan.specs.PortLists.{fed, delivered}
use Rattle.pb_lan.specs.Records.{IsLawfulRecord, IsLawfulLink, MeetsOver, steps_of, received, transmitted, lane_ab}
use Rattle.pb_lan.specs.Records.{lane_ba}
use Rattle.pb_relay.specs.Protocol.{spanning_tree}
use Rattle.pb_lan.specs.declared.event.Event.{Event}
use Rattle.pb_lan.specs.declared.plan.LinkPlan.{LinkPlan}
use Rattle.pb_lan.specs.declared.plan.Plan.{Plan}
use Rattle.pb_lan.specs.declared.record.Record.{Record}
use Rattle.pb_lan.specs.declared.step.Item.{Item}
use Rattle.pb_lan.specs.declared.step.Step.{Step}
use Rattle.pb_net.specs.Answers.{NetView, IsAnswer, HaveRun, HasStopped}
use Rattle.pb_net.specs.Nets.{IsSoundPlan, IsKept}
use Rattle.pb_net.specs.Slots.{items_at, link_of, losses_at}
use Rattle.pb_net.specs.declared.did.Did.{Did}
use Rattle.pb_net.specs.declared.fault.NetFault.{NetFault}
use Rattle.pb_net.specs.declared.fault.NetFault.TheVariants.{StepLimit, Memory, NoSuch}
use Rattle.pb_net.specs.declared.net.Net.TheInside.{Inside}
use Rattle.pb_net.proofs.DueLemmas.{into_at, out_at}
use Rattle.pb_net.proofs.Lanes.{ab_link, ba_link, ab_odd, ba_even, begins_at-end, ends_at-end}
use Rattle.pb_net.proofs.Meetings.{sent_to-customer, fetched_from-customer, sent_to-lane, fetched_from-lane}
use Rattle.pb_net.proofs.KnownSpots.{Keeps, ins_of, outs_of, rec_in, shown}
use Rattle.pb_net.proofs.OneMore.{steps_of-map}
use Rattle.pb_net.proofs.SpotLemmas.{slot_at, slot_of, slot_there}

into_port : (plan : Plan) (rec : Record) (ins outs : List (List Item)) (b q : ℕ) (sent : List Item)
    → IsKept plan rec ins outs → IsNumber b (length plan.bridges) → IsNumber q 16 → sent_to plan rec b q ≡ sent
    → received q (steps_of rec.bridges b) ++ items_at ins (slot_at b q) ≡ sent
into_port plan rec ins outs b q sent kept of_bridge of_port e = into_at plan rec ins outs b q (slot_at b q) kept
    (slot_there plan b q of_bridge of_port) ∙ e

out_port : (plan : Plan) (rec : Record) (ins outs : List (List Item)) (b q : ℕ) (got : List Item)
    → IsKept plan rec ins outs → IsNumber b (length plan.bridges) → IsNumber q 16 → fetched_from plan rec b q ≡ got
    → got ++ items_at outs (slot_at b q) ≡ transmitted q (steps_of rec.bridges b)
out_port plan rec ins outs b q got kept of_bridge of_port e = ap (λ (z : List Item). z ++ items_at outs (slot_at b q))
    (sym e) ∙ out_at plan rec ins outs b q (slot_at b q) kept (slot_there plan b q of_bridge of_port)

-- Over one lane of a link what was received is a beginning of what was sent, and the lane's list is lawful for the
-- link. The odd lane begins at the link's first end.
lane_lawful : (plan : Plan) (rec : Record) (ins outs : List (List Item)) (lane : ℕ) (link : LinkPlan) (odd : Bool)
    → IsSound plan → IsKept plan rec ins outs → numbered plan.links (link_of lane) ≡ Some link
    → (lane % 2 == 1) ≡ odd
    → IsLawfulLane (if odd then link.lost_ab else link.lost_ba) (steps_of rec.lanes lane)
    × MeetsOver rec lane (if odd then link.a else link.b) (if odd then link.b else link.a)
lane_lawful plan rec ins outs lane link odd sound kept at is =
    let from = begins_at lane link in
    let to = ends_at lane link in
    let a = sound-end plan sound (link_of lane) link from at (begins_at-end lane link) in
    let b = sound-end plan sound (link_of lane) link to at (ends_at-end lane link) in
    let losses = ap (λ (o : Option LinkPlan). unwrap_or (option_map (losses_at lane) o) []) at in
    subst (λ (t : Bool). IsLawfulLane (if t then link.lost_ab else link.lost_ba) (steps_of rec.lanes lane)
    × MeetsOver rec lane (if t then link.a else link.b) (if t then link.b else link.a)) is (
      subst (λ (ls : List ℕ). IsLawfulLane ls (steps_of rec.lanes lane)) losses (kept.lanes lane),
      record {
        onto = (
          items_at outs (slot_of from),
          out_port plan rec ins outs from.bridge from.port (taken (steps_of rec.lanes lane)) kept a.bridge a.port
              (fetched_from-lane plan sound rec lane link at),
        );
        off = (
          items_at ins (slot_of to),
          into_port plan rec ins outs to.bridge to.port (put (steps_of rec.lanes lane)) kept b.bridge b.port
              (sent_to-lane plan sound rec lane link at),
        );
      },
    )

-- a link is lawful: both its lanes are
link_lawful : (plan : Plan) (rec : Record) (ins outs : List (List Item)) (n : ℕ) (link : LinkPlan) → IsSound plan
    → IsKept plan rec ins outs → numbered plan.links n ≡ Some link → IsLawfulLink rec n link
link_lawful plan rec ins outs zero link sound kept at = cc
link_lawful plan rec ins outs (suc k) link sound kept at =
    let ab = lane_lawful plan rec ins outs (lane_ab (suc k)) link true sound kept
    (ap (λ m. numbered plan.links m) (ab_link k) ∙ at) (ab_odd k) in
    let ba = lane_lawful plan rec ins outs (lane_ba (suc k)) link false sound kept
    (ap (λ m. numbered plan.links m) (ba_link k) ∙ at) (ba_even k) in
    record { ab = ab.0; ba = ba.0; meets_ab = ab.1; meets_ba = ba.1 }

-- the record is lawful
pub kept_lawful : (plan : Plan) (rec : Record) (ins outs : List (List Item)) → IsSoundPlan plan
    → IsKept plan rec ins outs → IsLawfulRecord spanning_tree plan rec
kept_lawful plan rec ins outs sound kept = record {
  bridge_count = kept.bridge_count;
  lane_count = kept.lane_count;
  customer_count = kept.customer_count;
  bridges = kept.bridges;
  links = λ number link h. link_lawful plan rec ins outs number link sound.sound kept h;
  ports = kept.ports;
  customers = λ number c h.
      let is = numbered-All (IsSoundCustomer plan) plan.customers number c h sound.sound.customers in
      record {
        into = (
          items_at ins (slot_at c.bridge c.port),
          into_port plan rec ins outs c.bridge c.port
              (fed (steps_of rec.customers number)) kept is.bridge is.port
              (sent_to-customer plan sound.sound rec number c h),
        );
        out = (
          items_at outs (slot_at c.bridge c.port),
          out_port plan rec ins outs c.bridge c.port
              (delivered (steps_of rec.customers number)) kept is.bridge is.port
              (fetched_from-customer plan sound.sound rec number c h),
        );
      };
}

pub lawful_inside : {net : NetView} (s : Inside) → Keeps s → shown s ≡ net
    → IsLawfulRecord spanning_tree net.plan net.rec
lawful_inside s keeps view = subst (λ (v : NetView). IsLawfulRecord spanning_tree v.plan v.rec) view
    (kept_lawful s.plan (rec_in s) (ins_of s) (outs_of s) keeps.0 keeps.2)

-- a run extended by one event
pub run_more : (old mid new : NetView) (events : List Event) (event : Event) (did : Did) → HaveRun old events mid
    → IsAnswer mid event (Ok did) new → HaveRun old (events ++ event ∷ []) new
run_more old mid new [] event did e answer =
    (new, did, subst (λ (v : NetView). IsAnswer v event (Ok did) new) e answer, refl)
run_more old mid new (first ∷ events) event did (between, other, head, rest) answer =
    (between, other, head, run_more between mid new events event did rest answer)

-- the steps of the place with a number
pub steps_at_number : {X : Type 0} (f : X → List Step) (xs : List X) (n : ℕ) (x : X) → 1 ≤ n
    → slice_get xs (n - 1) ≡ Some x → steps_of (map f xs) n ≡ f x
steps_at_number f xs n x one here = let e : suc (n - 1) ≡ n = omega arith in ap (λ k. steps_of (map f xs) k) (sym e)
    ∙ steps_of-map f xs (n - 1) x here

-- the place with a number keeps its steps, and they are those of the record
pub known_steps : {X : Type 0} (f : X → List Step) (is_kept : X → Bool) (xs : List X) (n count : ℕ) (x : X)
    → length xs ≡ count → (1 ≤ n) × (n ≤ count) → x ≡ get_or xs (n - 1) x
    → AllByRecursion (λ y. is_kept y ≡ true) xs → (is_kept x ≡ true) × (f x ≡ steps_of (map f xs) n)
known_steps f is_kept xs n count x counted known value all =
    let here = here_is xs (n - 1) x (omega (arith, known.0, known.1, counted)) value in
    (All-at (λ y. is_kept y ≡ true) xs (n - 1) x here all, sym (steps_at_number f xs n x known.0 here))

-- in a network that keeps its steps all places keep theirs
pub all_kept : {X : Type 0} {net : NetView} (is_kept : X → Bool) (xs : List X) (s : Inside) → shown s ≡ net
    → net.is_kept ≡ true → AllByRecursion (λ x. is_kept x ≡ s.is_kept) xs
    → AllByRecursion (λ x. is_kept x ≡ true) xs
all_kept is_kept xs s view kept all = subst (λ k. AllByRecursion (λ x. is_kept x ≡ k) xs)
    (ap (λ (v : NetView). v.is_kept) view ∙ kept) all

-- the numbers of a list's items are those from 1 to its length
pub number_is_named : {X : Type 0} (xs : List X) (n : ℕ)
    → (nat_le 1 n && nat_le n (length xs)) ≡ is_some (numbered xs n)
number_is_named xs zero = refl
number_is_named xs (suc r) = ap (λ b. b && nat_le (suc r) (length xs)) (leb-suc-suc 0 r ∙ leb-zero r) ∙ there xs r
  where
    there : {X : Type 0} (xs : List X) (r : ℕ) → nat_le (suc r) (length xs) ≡ is_some (slice_get xs r)
    there [] r = leb-suc-zero r
    there (x ∷ xs) zero = leb-suc-suc 0 (length xs) ∙ leb-zero (length xs)
    there (x ∷ xs) (suc r) = leb-suc-suc (suc r) (length xs) ∙ there xs r

-- a lane that has a place has a number of the plan
pub known_lane : (n lanes : ℕ) → (nat_le 1 n && nat_le n lanes) ≡ true → (1 ≤ n) × (n ≤ lanes)
known_lane n lanes h = (
  leb-true 1 n (and-left (nat_le 1 n) (nat_le n lanes) h),
  leb-true n lanes
      (and-right (nat_le 1 n) (nat_le n lanes) h),
)

-- a number that a plan knows is that of one of its items
pub known_number : {X : Type 0} (xs : List X) (n : ℕ) → is_some (numbered xs n) ≡ true → (1 ≤ n) × (n ≤ length xs)
known_number xs n h = known_lane n (length xs) (number_is_named xs n ∙ h)

-- a fault leaves the network unchanged
pub fault_keeps : (old new : NetView) (event : Event) (fault : NetFault) → IsAnswer old event (Err fault) new
    → new ≡ old
fault_keeps old new event NoSuch a = a.1
fault_keeps old new event StepLimit a = a.3
fault_keeps old new event Memory a = a.1

-- a run ends at a fault
pub run_stopped : (old mid new : NetView) (events : List Event) (count : ℕ) (event : Event) (fault : NetFault)
    → slice_get events count ≡ Some event
    → HaveRun old (take count events) mid → IsAnswer mid event (Err fault) new → HasStopped old events count fault new
run_stopped old mid new events count event fault next before met =
    let same = fault_keeps mid new event fault met in
    record {
      event = event;
      next = next;
      before = subst (λ (v : NetView). HaveRun old (take count events) v) (sym same) before;
      met = subst (λ (v : NetView). IsAnswer v event (Err fault) new) (sym same) met;
    }
