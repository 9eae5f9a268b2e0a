-- The places whose rings meet.
use Rattle.std.proofs.Common.{◌≡◌, ℕ, suc, ◌+◌, ◌-◌, ◌<◌, List, [], Some, map, length, get_or}
use Rattle.std.proofs.Common.{slice_get, slice_index_or, unwrap_or, sym, ap, ◌∙◌, subst, arith, below_more}
use Rattle.std.proofs.lemmas.List.{length-map}
use Rattle.pb_frame.proofs.Lists.{Some-injective}
use Rattle.pb_frame.specs.Lists.{IsBeginning}
use Rattle.pb_frame.proofs.Things.{here_is, part_at}
use Rattle.pb_lan.specs.Plans.{IsNumber}
use Rattle.pb_lan.specs.Records.{steps_of, MeetsCustomer, MeetsOver}
use Rattle.pb_lan.specs.declared.plan.CustomerPlan.{CustomerPlan}
use Rattle.pb_lan.specs.declared.plan.LinkPlan.{LinkPlan}
use Rattle.pb_lan.specs.declared.plan.Plan.{Plan}
use Rattle.pb_lan.specs.declared.record.Record.{Record}
use Rattle.pb_lan.specs.declared.step.Item.{Item}
use Rattle.pb_lan.specs.declared.step.Step.{Step}
use Rattle.pb_run.specs.Gifts.{AreBridges}
use Rattle.pb_workers.specs.declared.gift.BridgeGift.{BridgeGift}
use Rattle.pb_run.specs.Wires.{ring_into, ring_out}
use Rattle.pb_run.proofs.Gifts.{rings_at}
use Rattle.pb_run.proofs.Lists.{thing_is}

-- the steps of a place at an index of the list
pub steps_there : {X : Type 0} (steps : X → List Step) (ws : List X) (r n : ℕ) (w : X) → slice_get ws r ≡ Some w
    → n ≡ suc r → steps_of (map steps ws) n ≡ steps w
steps_there steps ws r n w at e = ap (λ m. steps_of (map steps ws) m) e
    ∙ ap (λ o. unwrap_or o []) (part_at steps ws r w at)

-- a beginning between two places is one between their entries in the lists of all places
pub begins_there : {X Y : Type 0} (part_of whole_of : List Step → List Item) (one : X → List Step)
    (two : Y → List Step) (xs : List X) (ys : List Y) (r s n m : ℕ) (x : X) (y : Y)
    → slice_get xs r ≡ Some x → slice_get ys s ≡ Some y → n ≡ suc r → m ≡ suc s
    → IsBeginning (part_of (one x)) (whole_of (two y))
    → IsBeginning (part_of (steps_of (map one xs) n)) (whole_of (steps_of (map two ys) m))
begins_there part_of whole_of one two xs ys r s n m x y at_x at_y n_is m_is begins =
    subst (λ (z : List Step). IsBeginning (part_of (steps_of (map one xs) n)) (whole_of z))
    (sym (steps_there two ys s m y at_y m_is))
    (subst (λ (z : List Step). IsBeginning (part_of z) (whole_of (two y))) (sym (steps_there one xs r n x at_x n_is))
    begins)

-- the worker of a bridge is at its index
pub bridge_here : {X : Type 0} (gift : X → BridgeGift) (plan : Plan) (xs : List X) (bridge i : ℕ) (x : X)
    → AreBridges plan (length plan.bridges) (map gift xs) → IsNumber bridge (length plan.bridges)
    → i ≡ bridge - 1 → x ≡ get_or xs i x → slice_get xs i ≡ Some x
bridge_here gift plan xs bridge i x are number e value =
    here_is xs i x (omega (arith, are.counted, length-map xs gift, number.0, number.1)) value

-- the rings of a bridge's port are these, and there is an index for them
pub bridge_rings : {X : Type 0} (gift : X → BridgeGift) (plan : Plan) (xs : List X) (bridge port i : ℕ) (x : X)
    → AreBridges plan (length plan.bridges) (map gift xs) → IsNumber bridge (length plan.bridges)
    → IsNumber port 16 → i ≡ bridge - 1 → x ≡ get_or xs i x
    → (slice_index_or (gift x).ins (port - 1) 0 ≡ ring_into bridge port)
    × (slice_index_or (gift x).outs (port - 1) 0 ≡ ring_out bridge port) × (length (gift x).ins ≡ 16)
bridge_rings gift plan xs bridge port i x are number there e value =
    let at = part_at gift xs i x (bridge_here gift plan xs bridge i x are number e value) in
    let here : slice_get (map gift xs) (bridge - 1) ≡ Some (gift x) = ap (slice_get (map gift xs)) (sym e) ∙ at in
    let rings = rings_at plan (map gift xs) bridge port (gift x) are here number.0 there.0 there.1 in
    (rings.0, rings.1, (are.each (bridge - 1) (gift x) here).count)

-- the item at an index has what the list of gifts says
pub gift_is : {X Y : Type 0} (gift : X → Y) (xs : List X) (r : ℕ) (x : X) (y : Y) → slice_get (map gift xs) r ≡ Some y
    → x ≡ get_or xs r x → gift x ≡ y
gift_is gift xs r x y is value = Some-injective (sym (part_at gift xs r x (thing_is gift xs r y x is value)) ∙ is)

-- a beginning in the lists after a call is one in the lists before it
pub as_before : (part_of whole_of : List Step → List Item) (xs xs' ys ys' : List (List Step)) (n n' m m' : ℕ)
    → xs' ≡ xs → ys' ≡ ys → n' ≡ n → m' ≡ m
    → IsBeginning (part_of (steps_of xs' n')) (whole_of (steps_of ys' m'))
    → IsBeginning (part_of (steps_of xs n)) (whole_of (steps_of ys m))
as_before part_of whole_of xs xs' ys ys' n n' m m' ex ey en em begins =
    let part : steps_of xs' n' ≡ steps_of xs n = ap (λ zs. steps_of zs n') ex ∙ ap (steps_of xs) en in
    let whole : steps_of ys' m' ≡ steps_of ys m = ap (λ zs. steps_of zs m') ey ∙ ap (steps_of ys) em in
    subst (λ (z : List Step). IsBeginning (part_of (steps_of xs n)) (whole_of z)) whole
    (subst (λ (z : List Step). IsBeginning (part_of z) (whole_of (steps_of ys' m'))) part begins)

-- the customer port and the link are those of the plan
pub customer_meets : (rec : Record) (n : ℕ) (c d : CustomerPlan) → c ≡ d → MeetsCustomer rec n c → MeetsCustomer rec n d
customer_meets rec n c d e meets = subst (λ x. MeetsCustomer rec n x) e meets

pub link_meets : (rec : Record) (n m : ℕ) (k l : LinkPlan) → k ≡ l → MeetsOver rec n k.a k.b × MeetsOver rec m k.b k.a
    → MeetsOver rec n l.a l.b × MeetsOver rec m l.b l.a
link_meets rec n m k l e meet = subst (λ (x : LinkPlan). MeetsOver rec n x.a x.b × MeetsOver rec m x.b x.a) e meet

-- the meetings so far and one more, in lists that stayed the same
pub one_more_met : {X : Type 0} (Met : List (List Step) → List (List Step) → ℕ → X → Type 0) (xs : List X) (place : ℕ)
    (bs bs' ds ds' : List (List Step)) → bs' ≡ bs → ds' ≡ ds
    → ((k : ℕ) (x : X) → k < place → slice_get xs k ≡ Some x → Met bs ds k x)
    → ((x : X) → slice_get xs place ≡ Some x → Met bs' ds' place x)
    → (k : ℕ) (x : X) → k < place + 1 → slice_get xs k ≡ Some x → Met bs ds k x
one_more_met {X} Met xs place bs bs' ds ds' eb ed before here k x less at =
    below_more (λ j. (y : X) → slice_get xs j ≡ Some y → Met bs ds j y) place
    (λ j below y there. before j y below there)
    (λ y there. subst (λ zs. Met bs zs place y) ed (subst (λ zs. Met zs ds' place y) eb (here y there))) k less x at
