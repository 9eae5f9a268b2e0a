-- The record of workers that have met is lawful.
use Rattle.std.proofs.Common.{◌≡◌, ◌↔◌, Bool, IsTrue, ℕ, zero, suc, ◌+◌, ◌*◌, ◌<◌, List, [], ◌∷◌, Some, None, All}
use Rattle.std.proofs.Common.{map, length, unwrap_or, slice_get, refl, sym, ap, ◌∙◌, subst, arith, add-one}
use Rattle.std.proofs.lemmas.List.{length-map}
use Rattle.std.proofs.lemmas.Option.{slice_get_within}
use Rattle.pb_frame.proofs.Lists.{Some-injective}
use Rattle.pb_frame.proofs.Things.{part_at}
use Rattle.pb_lan.proofs.Numbers.{numbered-exists}
use Rattle.pb_lan.specs.BridgeLists.{IsLawfulBridge}
use Rattle.pb_lan.specs.LaneLists.{IsLawfulLane}
use Rattle.pb_lan.specs.Numbering.{numbered}
use Rattle.pb_lan.specs.Plans.{IsSound}
use Rattle.pb_lan.specs.PortLists.{IsLawfulPort}
use Rattle.pb_lan.specs.Records.{steps_of, MeetsCustomer, MeetsOver, IsLawfulLink, IsLawfulRecord, lane_ab, lane_ba}
use Rattle.pb_lan.specs.declared.plan.CustomerPlan.{CustomerPlan}
use Rattle.pb_lan.specs.declared.plan.LinkPlan.{LinkPlan}
use Rattle.pb_lan.specs.declared.plan.Plan.{Plan}
use Rattle.pb_lan.specs.declared.record.Record.{Record}
use Rattle.pb_lan.specs.declared.step.Place.TheVariants.{Bridge}
use Rattle.pb_lan.specs.declared.step.Step.{Step}
use Rattle.pb_relay.specs.Protocol.{spanning_tree}
use Rattle.pb_run.specs.Gifts.{AreBridges, lane_gift, AreLanes, access_gift, AreAccesses}
use Rattle.pb_workers.specs.declared.gift.AccessGift.{AccessGift}
use Rattle.pb_workers.specs.declared.gift.BridgeGift.{BridgeGift}
use Rattle.pb_workers.specs.declared.gift.LaneGift.{LaneGift}
use Rattle.pb_threads.proofs.WishLemmas.{none_given}
use Rattle.pb_threads.specs.Wishes.{Giving, AreGiven}
use Rattle.pb_workers.specs.Settings.{settings}
use Rattle.pb_run.specs.Meetings.{of_customers, of_lanes}
use Rattle.pb_run.specs.Runs.{TellsEnded}
use Rattle.pb_workers.specs.Drained.{TellsAllDrained}
use Rattle.pb_workers.specs.declared.access.Last.{Last}
use Rattle.pb_run.specs.declared.ended.Ended.{Ended}
use Rattle.pb_run.specs.declared.ended.Ended.TheVariants.{Drained}
use Rattle.pb_run.proofs.Lists.{all_at, thing_at}
use Rattle.pb_run.proofs.Meeting.{steps_there}

-- a property of each place's steps, and of the empty list, holds at every number
by_place : {X : Type 0} (L : ℕ → List Step → Type 0) (steps : X → List Step) (ws : List X) (r : ℕ)
    → ((n : ℕ) → L n []) → ((j : ℕ) (w : X) → slice_get ws j ≡ Some w → L j (steps w))
    → L r (unwrap_or (slice_get (map steps ws) r) [])
by_place L steps [] r none each = none r
by_place L steps (w ∷ ws) zero none each = each 0 w refl
by_place L steps (w ∷ ws) (suc r) none each = by_place (λ n ms. L (suc n) ms) steps ws r (λ n. none (suc n))
    (λ j x h. each (suc j) x h)

by_number : {X : Type 0} (L : ℕ → List Step → Type 0) (steps : X → List Step) (ws : List X) (n : ℕ)
    → ((m : ℕ) → L m []) → ((j : ℕ) (w : X) → slice_get ws j ≡ Some w → L (suc j) (steps w))
    → L n (steps_of (map steps ws) n)
by_number L steps ws zero none each = none 0
by_number L steps ws (suc r) none each = by_place (λ m ms. L (suc m) ms) steps ws r (λ m. none (suc m)) each

pub lawful_bridges : {X : Type 0} (gift : X → BridgeGift) (steps : X → List Step) (plan : Plan) (ws : List X)
    → AreBridges plan (length plan.bridges) (map gift ws)
    → All (λ w. IsLawfulBridge spanning_tree (gift w).plan (gift w).bridge (steps w)) ws → (n : ℕ)
    → IsLawfulBridge spanning_tree plan n (steps_of (map steps ws) n)
lawful_bridges gift steps plan ws are all n =
    by_number (λ m ms. IsLawfulBridge spanning_tree plan m ms) steps ws n (λ m. tt)
    (λ j w h.
    let is = are.each j (gift w) (part_at gift ws j w h) in
    let same : (gift w).bridge ≡ suc j = is.bridge ∙ add-one j in
    let lawful = all_at (λ x. IsLawfulBridge spanning_tree (gift x).plan (gift x).bridge (steps x)) ws j w all h in
    subst (λ (p : Plan). IsLawfulBridge spanning_tree p (suc j) (steps w)) is.plans
    (subst (λ m. IsLawfulBridge spanning_tree (gift w).plan m (steps w)) same lawful))

-- the settings of the bridges of a run are those that the gate wished for, by the number of each bridge
pub all_wished : {X : Type 0} (gives : Giving) (gift : X → BridgeGift) (steps : X → List Step) (plan : Plan)
    (ws : List X) → AreBridges plan (length plan.bridges) (map gift ws)
    → All (λ w. AreGiven (gives (Bridge (gift w).worker)) (settings (steps w))) ws → (n : ℕ)
    → AreGiven (gives (Bridge n)) (settings (steps_of (map steps ws) n))
all_wished gives gift steps plan ws are all n =
    by_number (λ m ms. AreGiven (gives (Bridge m)) (settings ms)) steps ws n
    (λ m. none_given (gives (Bridge m)) [] refl)
    (λ j w h.
    let is = are.each j (gift w) (part_at gift ws j w h) in
    let same : (gift w).worker ≡ suc j = is.worker ∙ add-one j in
    subst (λ m. AreGiven (gives (Bridge m)) (settings (steps w))) same
    (all_at (λ x. AreGiven (gives (Bridge (gift x).worker)) (settings (steps x))) ws j w all h))

lawful_lane : {X : Type 0} (gift : X → LaneGift) (steps : X → List Step) (ws : List X) (r n : ℕ) (g : LaneGift)
    → slice_get (map gift ws) r ≡ Some g → n ≡ suc r
    → All (λ w. IsLawfulLane (gift w).losses (steps w)) ws → IsLawfulLane g.losses (steps_of (map steps ws) n)
lawful_lane gift steps ws r n g at e all =
    let there = thing_at gift ws r g at in
    let lawful = all_at (λ w. IsLawfulLane (gift w).losses (steps w)) ws r there.0 all there.1 in
    subst (λ ms. IsLawfulLane g.losses ms) (sym (steps_there steps ws r n there.0 there.1 e))
    (subst (λ (z : LaneGift). IsLawfulLane z.losses (steps there.0)) there.2 lawful)

pub lawful_lanes : {X : Type 0} (gift : X → LaneGift) (steps : X → List Step) (plan : Plan) (ws : List X) (k : ℕ)
    (link : LinkPlan) → AreLanes plan (length plan.links) (map gift ws)
    → All (λ w. IsLawfulLane (gift w).losses (steps w)) ws → slice_get plan.links k ≡ Some link
    → IsLawfulLane link.lost_ab (steps_of (map steps ws) (2 * k + 1))
    × IsLawfulLane link.lost_ba (steps_of (map steps ws) (2 * k + 2))
lawful_lanes gift steps plan ws k link are all at =
    let within = slice_get_within plan.links k link at in (
      lawful_lane gift steps ws (2 * k) (2 * k + 1) (lane_gift (2 * k + 1) link.a link.b link.lost_ab)
          (are.ab k link within at) (omega arith) all,
      lawful_lane gift steps ws (2 * k + 1) (2 * k + 2) (lane_gift (2 * k + 2) link.b link.a link.lost_ba)
          (are.ba k link within at) (omega arith) all,
    )

pub lawful_ports : {X : Type 0} (gift : X → AccessGift) (steps : X → List Step) (plan : Plan) (ws : List X)
    → AreAccesses plan (length plan.customers) (map gift ws)
    → All (λ w. IsLawfulPort (gift w).place (steps w)) ws → (n : ℕ) → IsLawfulPort n (steps_of (map steps ws) n)
lawful_ports gift steps plan ws are all n =
    by_number (λ m ms. IsLawfulPort m ms) steps ws n (λ m. record { kinds = tt; marked = tt; held = (None, refl) })
    (λ j w h.
    let at = part_at gift ws j w h in
    let within : j < length plan.customers = let b = slice_get_within (map gift ws) j (gift w) at in omega
    (arith, are.counted) in
    let c = numbered-exists plan.customers (suc j) (omega arith, omega arith) in
    let same : gift w ≡ access_gift (j + 1) c.0 = Some-injective (sym at ∙ are.each j c.0 within c.1) in
    let number : (gift w).place ≡ suc j = ap (λ (z : AccessGift). z.place) same ∙ add-one j in
    subst (λ m. IsLawfulPort m (steps w)) number (all_at (λ x. IsLawfulPort (gift x).place (steps x)) ws j w all h))

-- a record is lawful if each of its parts is and neighbours agree
pub lawful_record : (plan : Plan) (rec : Record)
    → length rec.bridges ≡ length plan.bridges → length rec.lanes ≡ 2 * length plan.links
    → length rec.customers ≡ length plan.customers
    → ((n : ℕ) → IsLawfulBridge spanning_tree plan n (steps_of rec.bridges n))
    → ((k : ℕ) (link : LinkPlan) → slice_get plan.links k ≡ Some link → IsLawfulLane link.lost_ab
    (steps_of rec.lanes (2 * k + 1)) × IsLawfulLane link.lost_ba (steps_of rec.lanes (2 * k + 2)))
    → ((n : ℕ) → IsLawfulPort n (steps_of rec.customers n))
    → ((k : ℕ) (c : CustomerPlan) → k < length plan.customers → slice_get plan.customers k ≡ Some c → MeetsCustomer
    (of_customers rec.bridges rec.customers) (k + 1) c)
    → ((k : ℕ) (link : LinkPlan) → k < length plan.links → slice_get plan.links k ≡ Some link
    → MeetsOver (of_lanes rec.bridges rec.lanes) (2 * k + 1) link.a link.b
    × MeetsOver (of_lanes rec.bridges rec.lanes) (2 * k + 2) link.b link.a)
    → IsLawfulRecord spanning_tree plan rec
lawful_record plan rec bridge_count lane_count customer_count bridges lanes ports accesses links = record {
  bridge_count = bridge_count;
  lane_count = lane_count;
  customer_count = customer_count;
  bridges = bridges;
  links = by_link;
  ports = ports;
  customers = by_customer;
}
  where
    by_customer : (number : ℕ) (c : CustomerPlan) → numbered plan.customers number ≡ Some c → MeetsCustomer rec number c
    by_customer zero c h = cc
    by_customer (suc k) c h =
        let e : k + 1 ≡ suc k = omega arith in
        let meets = subst (λ n. MeetsCustomer (of_customers rec.bridges rec.customers) n c) e
        (accesses k c (slice_get_within plan.customers k c h) h) in
        record { into = meets.into; out = meets.out }

    by_link : (number : ℕ) (link : LinkPlan) → numbered plan.links number ≡ Some link → IsLawfulLink rec number link
    by_link zero link h = cc
    by_link (suc k) link h =
        let ab : 2 * k + 1 ≡ lane_ab (suc k) = omega arith in
        let ba : 2 * k + 2 ≡ lane_ba (suc k) = omega arith in
        let lawful = lanes k link h in
        let meet = links k link (slice_get_within plan.links k link h) h in
        let over_ab = subst (λ n. MeetsOver (of_lanes rec.bridges rec.lanes) n link.a link.b) ab meet.0 in
        let over_ba = subst (λ n. MeetsOver (of_lanes rec.bridges rec.lanes) n link.b link.a) ba meet.1 in
        record {
          ab = subst (λ n. IsLawfulLane link.lost_ab (steps_of rec.lanes n)) ab lawful.0;
          ba = subst (λ n. IsLawfulLane link.lost_ba (steps_of rec.lanes n)) ba lawful.1;
          meets_ab = record { onto = over_ab.onto; off = over_ab.off };
          meets_ba = record { onto = over_ba.onto; off = over_ba.off };
        }

-- `lawful_record` for the workers of a plan that are back and have met
pub lawful_workers : {X Y Z : Type 0} (bridge : X → BridgeGift) (bridge_steps : X → List Step) (lane : Y → LaneGift)
    (lane_steps : Y → List Step) (access : Z → AccessGift) (access_steps : Z → List Step)
    (plan : Plan) (rec : Record) (bs : List X) (ls : List Y) (ds : List Z) (bridges : List BridgeGift)
    (lanes : List LaneGift) (accesses : List AccessGift) (b1 b2 l1 d1 : List (List Step))
    → rec.bridges ≡ map bridge_steps bs → rec.lanes ≡ map lane_steps ls → rec.customers ≡ map access_steps ds
    → map bridge bs ≡ bridges → map lane ls ≡ lanes → map access ds ≡ accesses
    → map bridge_steps bs ≡ b1 → map access_steps ds ≡ d1 → map bridge_steps bs ≡ b2 → map lane_steps ls ≡ l1
    → AreBridges plan (length plan.bridges) bridges → AreLanes plan (length plan.links) lanes
    → AreAccesses plan (length plan.customers) accesses
    → All (λ w. IsLawfulBridge spanning_tree (bridge w).plan (bridge w).bridge (bridge_steps w)) bs
    → All (λ w. IsLawfulLane (lane w).losses (lane_steps w)) ls
    → All (λ w. IsLawfulPort (access w).place (access_steps w)) ds
    → ((k : ℕ) (c : CustomerPlan) → k < length plan.customers → slice_get plan.customers k ≡ Some c → MeetsCustomer
    (of_customers b1 d1) (k + 1) c)
    → ((k : ℕ) (link : LinkPlan) → k < length plan.links → slice_get plan.links k ≡ Some link
    → MeetsOver (of_lanes b2 l1) (2 * k + 1) link.a link.b × MeetsOver (of_lanes b2 l1) (2 * k + 2) link.b link.a)
    → IsLawfulRecord spanning_tree plan rec
lawful_workers bridge bridge_steps lane lane_steps access access_steps plan rec bs ls ds bridges lanes accesses b1 b2
    l1 d1 rec_bs rec_ls rec_ds is_bs is_ls is_ds eb1 ed1 eb2 el1 are_bs are_ls are_ds law_bs law_ls law_ds met_ds
    met_ls =
    let fits_bs = subst (λ gs. AreBridges plan (length plan.bridges) gs) (sym is_bs) are_bs in
    let fits_ls = subst (λ gs. AreLanes plan (length plan.links) gs) (sym is_ls) are_ls in
    let fits_ds = subst (λ gs. AreAccesses plan (length plan.customers) gs) (sym is_ds) are_ds in
    lawful_record plan rec
    (ap length rec_bs ∙ length-map bs bridge_steps ∙ sym (length-map bs bridge) ∙ fits_bs.counted)
    (ap length rec_ls ∙ length-map ls lane_steps ∙ sym (length-map ls lane) ∙ fits_ls.counted)
    (ap length rec_ds ∙ length-map ds access_steps ∙ sym (length-map ds access) ∙ fits_ds.counted)
    (λ n. rw rec_bs (lawful_bridges bridge bridge_steps plan bs fits_bs law_bs n))
    (λ k link at. rw rec_ls (lawful_lanes lane lane_steps plan ls k link fits_ls law_ls at))
    (λ n. rw rec_ds (lawful_ports access access_steps plan ds fits_ds law_ds n))
    (λ k c less at. rw (rec_ds ∙ ed1, rec_bs ∙ eb1) (met_ds k c less at))
    (λ k link less at. rw (rec_ls ∙ el1, rec_bs ∙ eb2) (met_ls k link less at))

-- the reported end of a run is true, from its lawful record
pub tells_ended : (plan : Plan) (rec : Record) (lasts looked : List Last) (drained : Bool) (ended : Ended)
    → ((ended ≡ Drained) ↔ IsTrue drained) → TellsAllDrained rec looked drained → looked ≡ lasts
    → IsSound plan → IsLawfulRecord spanning_tree plan rec → TellsEnded plan rec lasts ended
tells_ended plan rec lasts looked drained ended told tells same sound lawful =
    let all = tells spanning_tree plan sound lawful in
    subst (λ (ls : List Last). TellsEnded plan rec ls ended) same (λ is. all.0 (told.0 is), λ both. told.1 (all.1 both))
