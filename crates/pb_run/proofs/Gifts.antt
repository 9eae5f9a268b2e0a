-- What workers are given, for the loops that build them, and the rings that join them.
use Rattle.std.proofs.Common.{◌≡◌, ℕ, suc, ◌+◌, ◌-◌, ◌*◌, ◌<◌, ◌≤◌, inl, inr, List, [], ◌∷◌, ◌++◌, Some, length}
use Rattle.std.proofs.Common.{slice_get, slice_index_or, map, refl, sym, ap, ◌∙◌, subst, arith, length-append}
use Rattle.std.proofs.Common.{below_more}
use Rattle.std.proofs.lemmas.List.{map-append, length-map}
use Rattle.pb_frame.proofs.Lists.{Some-injective, All-at}
use Rattle.pb_frame.proofs.Things.{each_more, slice_get-next}
use Rattle.pb_lan.proofs.PortsInPlans.{sound-end}
use Rattle.pb_lan.specs.Plans.{IsSound, IsSoundEnd, IsSoundCustomer}
use Rattle.pb_lan.specs.declared.plan.CustomerPlan.{CustomerPlan}
use Rattle.pb_lan.specs.declared.plan.End.{End}
use Rattle.pb_lan.specs.declared.plan.LinkPlan.{LinkPlan}
use Rattle.pb_lan.specs.declared.plan.Plan.{Plan}
use Rattle.pb_run.specs.Gifts.{IsBridgeGift, AreBridges, lane_over, lane_gift, AreLanes, access_gift, AreAccesses}
use Rattle.pb_workers.specs.declared.gift.AccessGift.{AccessGift}
use Rattle.pb_workers.specs.declared.gift.BridgeGift.{BridgeGift}
use Rattle.pb_workers.specs.declared.gift.LaneGift.{LaneGift}
use Rattle.pb_run.specs.Wires.{ring_into, ring_out}
use Rattle.pb_run.proofs.Lists.{slice_get-front}

-- the list of bridges extended by one
pub bridges_more : (plan : Plan) (k : ℕ) (gifts : List BridgeGift) (gift : BridgeGift) → AreBridges plan k gifts
    → IsBridgeGift plan (k + 1) gift → AreBridges plan (k + 1) (gifts ++ gift ∷ [])
bridges_more plan k gifts gift are is = record {
  counted = omega (arith, are.counted, length-append gifts (gift ∷ []));
  each = each_more (λ r g. IsBridgeGift plan (r + 1) g) gifts gift are.each
      (subst (λ n. IsBridgeGift plan (n + 1) gift) (sym are.counted) is);
}

-- the item at the end of a list
at_end : {X : Type 0} (xs : List X) (x : X) (n : ℕ) → length xs ≡ n → slice_get (xs ++ x ∷ []) n ≡ Some x
at_end xs x n counted = ap (slice_get (xs ++ x ∷ [])) (sym counted) ∙ slice_get-next xs [] x

-- a property of an entry for each part of a plan holds after one more, in a list that keeps its entries
one_more_stands : {P G : Type 0} (gift : ℕ → P → G) (place : ℕ → ℕ) (ps : List P) (k : ℕ) (p : P) (gifts more : List G)
    → slice_get ps k ≡ Some p → ((n : ℕ) (g : G) → slice_get gifts n ≡ Some g → slice_get more n ≡ Some g)
    → ((j : ℕ) (q : P) → j < k → slice_get ps j ≡ Some q → slice_get gifts (place j) ≡ Some (gift j q))
    → slice_get more (place k) ≡ Some (gift k p)
    → (j : ℕ) (q : P) → j < k + 1 → slice_get ps j ≡ Some q → slice_get more (place j) ≡ Some (gift j q)
one_more_stands {P} gift place ps k p gifts more at stays are here j q less there =
    below_more (λ n. (r : P) → slice_get ps n ≡ Some r → slice_get more (place n) ≡ Some (gift n r)) k
    (λ n below r h. stays (place n) (gift n r) (are n r below h))
    (λ r h. here ∙ ap (λ z. Some (gift k z)) (Some-injective (sym at ∙ h))) j less q there

-- the list of customer ports extended by one
pub accesses_more : (plan : Plan) (k : ℕ) (c : CustomerPlan) (gifts : List AccessGift) (gift : AccessGift)
    → slice_get plan.customers k ≡ Some c → AreAccesses plan k gifts → gift ≡ access_gift (k + 1) c
    → AreAccesses plan (k + 1) (gifts ++ gift ∷ [])
accesses_more plan k c gifts gift at are is = record {
  counted = omega (arith, are.counted, length-append gifts (gift ∷ []));
  each = one_more_stands (λ j d. access_gift (j + 1) d) (λ j. j) plan.customers k c gifts (gifts ++ gift ∷ []) at
      (slice_get-front gifts (gift ∷ [])) are.each (at_end gifts gift k are.counted ∙ ap (λ g. Some g) is);
}

-- the list of lanes extended by the two of a link
pub lanes_more : (plan : Plan) (k : ℕ) (link : LinkPlan) (gifts : List LaneGift) (one two : LaneGift)
    → slice_get plan.links k ≡ Some link → AreLanes plan k gifts
    → one ≡ lane_gift (2 * k + 1) link.a link.b link.lost_ab → two ≡ lane_gift (2 * k + 2) link.b link.a link.lost_ba
    → AreLanes plan (k + 1) ((gifts ++ one ∷ []) ++ two ∷ [])
lanes_more plan k link gifts one two at are is_one is_two =
    let counted : length (gifts ++ one ∷ []) ≡ 2 * k + 1 = omega (arith, are.counted, length-append gifts (one ∷ [])) in
    record {
      counted = omega (arith, counted, length-append (gifts ++ one ∷ []) (two ∷ []));
      ab = one_more_stands (λ j l. lane_gift (2 * j + 1) l.a l.b l.lost_ab) (λ j. 2 * j) plan.links k link gifts
          ((gifts ++ one ∷ []) ++ two ∷ []) at kept are.ab
          (slice_get-front (gifts ++ one ∷ []) (two ∷ []) (2 * k) one (at_end gifts one (2 * k) are.counted)
          ∙ ap (λ g. Some g) is_one);
      ba = one_more_stands (λ j l. lane_gift (2 * j + 2) l.b l.a l.lost_ba) (λ j. 2 * j + 1) plan.links k link gifts
          ((gifts ++ one ∷ []) ++ two ∷ []) at kept are.ba
          (at_end (gifts ++ one ∷ []) two (2 * k + 1) counted ∙ ap (λ g. Some g) is_two);
    }
  where
    kept : (n : ℕ) (g : LaneGift) → slice_get gifts n ≡ Some g → slice_get ((gifts ++ one ∷ []) ++ two ∷ []) n ≡ Some g
    kept n g h = slice_get-front (gifts ++ one ∷ []) (two ∷ []) n g (slice_get-front gifts (one ∷ []) n g h)

-- the ends of a link of a sound plan are sound
pub link_ends : (plan : Plan) (k : ℕ) (link : LinkPlan) → IsSound plan → slice_get plan.links k ≡ Some link
    → IsSoundEnd plan link.a × IsSoundEnd plan link.b
link_ends plan k link sound at =
    (sound-end plan sound (suc k) link link.a at (inl refl), sound-end plan sound (suc k) link link.b at (inr refl))

-- a customer port of a sound plan is sound
pub customer_stands : (plan : Plan) (k : ℕ) (c : CustomerPlan) → IsSound plan → slice_get plan.customers k ≡ Some c
    → IsSoundCustomer plan c
customer_stands plan k c sound at = All-at (IsSoundCustomer plan) plan.customers k c at sound.customers

-- the rings of a bridge at a port
pub rings_at : (plan : Plan) (gifts : List BridgeGift) (bridge port : ℕ) (gift : BridgeGift)
    → AreBridges plan (length plan.bridges) gifts → slice_get gifts (bridge - 1) ≡ Some gift → 1 ≤ bridge → 1 ≤ port
    → port ≤ 16
    → (slice_index_or gift.ins (port - 1) 0 ≡ ring_into bridge port)
    × (slice_index_or gift.outs (port - 1) 0 ≡ ring_out bridge port)
rings_at plan gifts bridge port gift are at some from to =
    let is = are.each (bridge - 1) gift at in
    let b : bridge - 1 + 1 ≡ bridge = omega arith in
    let p : port - 1 + 1 ≡ port = omega arith in (
      is.into (port - 1) (omega arith) ∙ ap (λ n. ring_into n (port - 1 + 1)) b ∙ ap (ring_into bridge) p,
      is.out (port - 1) (omega arith) ∙ ap (λ n. ring_out n (port - 1 + 1)) b ∙ ap (ring_out bridge) p,
    )

-- the empty list of bridges
pub no_bridges : {X : Type 0} (gift : X → BridgeGift) (plan : Plan) (xs : List X) → xs ≡ []
    → AreBridges plan 0 (map gift xs)
no_bridges gift plan [] none = record { counted = refl; each = λ r g at. cc }
no_bridges gift plan (x ∷ xs) none = cc

pub no_accesses : {X : Type 0} (gift : X → AccessGift) (plan : Plan) (xs : List X) → xs ≡ []
    → AreAccesses plan 0 (map gift xs)
no_accesses gift plan [] none = record { counted = refl; each = λ k c less at. absurd (omega arith) }
no_accesses gift plan (x ∷ xs) none = cc

-- a lane by the numbers of its rings
pub is_lane_gift : (number from to : ℕ) (a b : End) (losses : List ℕ) → from ≡ ring_out a.bridge a.port
    → to ≡ ring_into b.bridge b.port → lane_over number from to losses ≡ lane_gift number a b losses
is_lane_gift number from to a b losses is_from is_to =
    ap (λ n. lane_over number n to losses) is_from ∙ ap (λ n. lane_over number (ring_out a.bridge a.port) n losses)
    is_to

-- the worker of one more bridge
pub bridge_pushed : {X : Type 0} (gift : X → BridgeGift) (plan : Plan) (k : ℕ) (xs ys : List X) (x : X)
    → ys ≡ xs ++ x ∷ [] → AreBridges plan k (map gift xs) → IsBridgeGift plan (k + 1) (gift x)
    → AreBridges plan (k + 1) (map gift ys)
bridge_pushed gift plan k xs ys x e are is =
    subst (λ gs. AreBridges plan (k + 1) gs) (sym (ap (map gift) e ∙ map-append gift xs (x ∷ [])))
    (bridges_more plan k (map gift xs) (gift x) are is)

-- the workers of the lanes of one more link
pub lanes_pushed : {X : Type 0} (gift : X → LaneGift) (plan : Plan) (k n : ℕ) (link : LinkPlan) (xs ys zs : List X)
    (x y : X) → slice_get plan.links k ≡ Some link → n ≡ length xs + 1
    → ys ≡ xs ++ x ∷ [] → zs ≡ ys ++ y ∷ [] → AreLanes plan k (map gift xs)
    → gift x ≡ lane_gift n link.a link.b link.lost_ab → gift y ≡ lane_gift (n + 1) link.b link.a link.lost_ba
    → AreLanes plan (k + 1) (map gift zs)
lanes_pushed gift plan k n link xs ys zs x y at n_is ys_is zs_is are is_x is_y =
    let first : n ≡ 2 * k + 1 = omega (arith, n_is, are.counted, length-map xs gift) in
    let second : n + 1 ≡ 2 * k + 2 = omega (arith, first) in
    let all : map gift zs ≡ (map gift xs ++ gift x ∷ []) ++ gift y ∷ [] =
    ap (map gift) zs_is ∙ map-append gift ys (y ∷ [])
    ∙ ap (λ gs. gs ++ gift y ∷ []) (ap (map gift) ys_is ∙ map-append gift xs (x ∷ [])) in
    subst (λ gs. AreLanes plan (k + 1) gs) (sym all)
    (lanes_more plan k link (map gift xs) (gift x) (gift y) at are
    (is_x ∙ ap (λ m. lane_gift m link.a link.b link.lost_ab) first)
    (is_y ∙ ap (λ m. lane_gift m link.b link.a link.lost_ba) second))

-- the access of one more customer port
pub access_pushed : {X : Type 0} (gift : X → AccessGift) (plan : Plan) (k n : ℕ) (c : CustomerPlan) (xs ys : List X)
    (x : X) → slice_get plan.customers k ≡ Some c → n ≡ length xs + 1
    → ys ≡ xs ++ x ∷ [] → AreAccesses plan k (map gift xs) → gift x ≡ access_gift n c
    → AreAccesses plan (k + 1) (map gift ys)
access_pushed gift plan k n c xs ys x at n_is e are is =
    let number : n ≡ k + 1 = omega (arith, n_is, are.counted, length-map xs gift) in
    subst (λ gs. AreAccesses plan (k + 1) gs) (sym (ap (map gift) e ∙ map-append gift xs (x ∷ [])))
    (accesses_more plan k c (map gift xs) (gift x) at are (is ∙ ap (λ m. access_gift m c) number))
