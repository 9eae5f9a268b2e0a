-- The plan's services, one by one. For `services_of` and `attach`.
use Rattle.std.proofs.Common.{◌≡◌, ℕ, zero, suc, ◌<◌, Bool, true, false, cond, ◌==◌, ◌||◌, ◌&&◌, nat_eq, nat_lt, Some}
use Rattle.std.proofs.Common.{None, is_some, List, [], ◌∷◌, map, insert, take, length, get_or, slice_get, unwrap_or}
use Rattle.std.proofs.Common.{eq-eqb, refl, sym, ap, ◌∙◌, arith}
use Rattle.std.proofs.lemmas.Bool.{eqb-true}
use Rattle.std.proofs.lemmas.Option.{slice_get-map}
use Rattle.std.specs.List.{list_any, list_all, AllByRecursion, IsDistinct}
use Rattle.std.specs.Option.{option_map}
use Rattle.std.specs.declared.option.Option.{Option}
use Rattle.pb_frame.specs.Admission.{same}
use Rattle.pb_frame.specs.Lists.{first}
use Rattle.pb_lan.proofs.Distinctness.{list_any-map}
use Rattle.pb_lan.proofs.Numbers.{numbered-exists}
use Rattle.pb_lan.specs.Numbering.{numbered}
use Rattle.pb_lan.specs.Plans.{IsNumber, IsSound}
use Rattle.pb_lan.specs.Ports.{has_vid as has_vid_of, listed}
use Rattle.pb_lan.specs.declared.plan.Plan.{Plan}
use Rattle.pb_lan.specs.declared.plan.ServicePlan.{ServicePlan}
use Rattle.pb_svlan.specs.ServiceTables.{ServiceTable, vid_of, is_known, has_name, has_vid, kind_in, place_of}
use Rattle.pb_svlan.specs.ServiceTables.{carried, vids_of as vids_numbered}
use Rattle.pb_svlan.specs.declared.port.Attachment.{Attachment}
use Rattle.pb_relay.specs.PortKinds.{serves_of, vids_of}
use Rattle.pb_relay.specs.Starts.{HasServices}

-- a service with its VID and name
abbrev pub pair_of : ServicePlan → ℕ × List ℕ
pair_of s = (s.vid, s.name)

-- a property of all images holds of the one at a place
all-get : {X K : Type 0} (P : K → Type 0) (f : X → K) (xs : List X) (i : ℕ) (d : X) → i < length xs
    → AllByRecursion P (map f xs) → P (f (get_or xs i d))
all-get P f [] i d l a = absurd (omega arith)
all-get P f (x ∷ xs) zero d l a = a.0
all-get P f (x ∷ xs) (suc i) d l a = all-get P f xs i d (omega arith) a.1

-- if keys are distinct, none before a place has the key at that place
distinct-before : {X K : Type 0} (e : K → K → Bool) (f : X → K) (xs : List X) (i : ℕ) (d : X) → i < length xs
    → IsDistinct e (map f xs)
    → list_any (λ y. e (f y) (f (get_or xs i d))) (take i xs) ≡ false
unfolding IsDistinct
distinct-before e f [] i d l h = absurd (omega arith)
distinct-before e f (x ∷ xs) zero d l h = refl
distinct-before e f (x ∷ xs) (suc i) d l h =
    ap (λ b. b || list_any (λ y. e (f y) (f (get_or xs i d))) (take i xs))
    (all-get (λ k. e (f x) k ≡ false) f xs i d (omega arith) h.0)
    ∙ distinct-before e f xs i d (omega arith) h.1

-- none of the services so far has the next one's name or VID
pub new_service : (plan : Plan) (table : ServiceTable) (items : List ServicePlan) (i : ℕ) (s : ServicePlan)
    → IsSound plan → items ≡ plan.services → i < length items → s ≡ get_or items i s
    → table.services ≡ map pair_of (take i plan.services)
    → (has_name table s.name ≡ false) × (has_vid table s.vid ≡ false)
new_service plan table items i s sound all l e t = (
  ap (list_any (λ z. same z.1 s.name)) t ∙ list_any-map (λ z. same z.1 s.name) pair_of (take i plan.services)
      ∙ ap (λ (z : ServicePlan). list_any (λ y. same y.name z.name) (take i plan.services)) here
      ∙ distinct-before same (λ (y : ServicePlan). y.name) plan.services i s within sound.names.services,
  ap (list_any (λ z. z.0 == s.vid)) t ∙ list_any-map (λ z. z.0 == s.vid) pair_of (take i plan.services)
      ∙ ap (λ (z : ServicePlan). list_any (λ y. y.vid == z.vid) (take i plan.services)) here
      ∙ distinct-before nat_eq (λ (y : ServicePlan). y.vid) plan.services i s within sound.distinct_vids,
)
  where
    here : s ≡ get_or plan.services i s
    here = e ∙ ap (λ (ss : List ServicePlan). get_or ss i s) all

    within : i < length plan.services
    within = omega (arith, l, ap length all)

-- the VID of a service in the table is that in the plan
pub vid-known : (plan : Plan) (table : ServiceTable) (n : ℕ) → HasServices plan table
    → vid_of table n ≡ option_map (λ s. s.vid) (numbered plan.services n)
vid-known plan table zero h = refl
vid-known plan table (suc n) h =
    ap (λ ss. option_map (λ s. s.0) (slice_get ss n)) h
    ∙ ap (option_map (λ s. s.0)) (slice_get-map pair_of plan.services n) ∙ twice (slice_get plan.services n)
  where
    twice : (o : Option ServicePlan) → option_map (λ s. s.0) (option_map pair_of o) ≡ option_map (λ s. s.vid) o
    twice None = refl
    twice (Some s) = refl

pub known : (plan : Plan) (table : ServiceTable) (n : ℕ) → HasServices plan table → IsNumber n (length plan.services)
    → is_known table n ≡ true
known plan table n h l =
    let s = numbered-exists plan.services n l in
    ap is_some (vid-known plan table n h ∙ ap (option_map (λ s. s.vid)) s.1)

pub all-known : (plan : Plan) (table : ServiceTable) (numbers : List ℕ) → HasServices plan table
    → AllByRecursion (λ n. IsNumber n (length plan.services)) numbers → list_all (is_known table) numbers ≡ true
all-known plan table [] h a = refl
all-known plan table (n ∷ numbers) h a = ap (λ b. b && list_all (is_known table) numbers) (known plan table n h a.0)
    ∙ all-known plan table numbers h a.1

-- the VIDs of a port to another bridge are those of the services that its end lists
carried-listed : (plan : Plan) (table : ServiceTable) (numbers : List ℕ) (v : ℕ) → HasServices plan table
    → AllByRecursion (λ n. IsNumber n (length plan.services)) numbers
    → list_any (λ w. w == v) (vids_numbered table numbers) ≡ list_any (has_vid_of plan v) numbers
carried-listed plan table [] v h a = refl
carried-listed plan table (n ∷ numbers) v h a =
    let s = numbered-exists plan.services n a.0 in
    let here : (unwrap_or (vid_of table n) 0 == v) ≡ has_vid_of plan v n =
    ap (λ o. unwrap_or o 0 == v) (vid-known plan table n h ∙ ap (option_map (λ s. s.vid)) s.1)
    ∙ sym (ap (λ o. unwrap_or (option_map (λ s. s.vid == v) o) false) s.1) in
    ap (λ b. b || list_any (λ w. w == v) (vids_numbered table numbers)) here
    ∙ ap (λ b. has_vid_of plan v n || b) (carried-listed plan table numbers v h a.1)

pub carried-serves : (plan : Plan) (old new : ServiceTable) (services : Option (List ℕ)) (v : ℕ)
    → HasServices plan old → new.services ≡ old.services
    → ((numbers : List ℕ) → services ≡ Some numbers → AllByRecursion (λ n. IsNumber n (length plan.services)) numbers)
    → serves_of (vids_of new (carried old services)) v ≡ listed plan v services
carried-serves plan old new None v h e a =
    ap (λ ss. list_any (λ w. w == v) (map (λ s. s.0) ss)) (e ∙ h)
    ∙ list_any-map (λ w. w == v) (λ s. s.0) (map pair_of plan.services)
    ∙ list_any-map (λ s. s.0 == v) pair_of plan.services
carried-serves plan old new (Some numbers) v h e a = carried-listed plan old numbers v h (a numbers refl)

-- the kinds of ports with one more port that had none
pub kind-attached : (ports : List Attachment) (a : Attachment) (q : ℕ) → kind_in ports a.port ≡ None
    → kind_in (insert ports (place_of a.port ports) a) q ≡ cond (a.port == q) (Some a.kind) (kind_in ports q)
kind-attached [] a q none = elim (a.port == q) as (λ t. option_map (λ z. z.kind) (cond t (Some a) None) ≡ cond t
    (Some a.kind) None) [ true ↦ refl | false ↦ refl ]
kind-attached (b ∷ others) a q none =
    elim (nat_lt b.port a.port) as (λ t. kind_in (insert (b ∷ others) (cond t (suc (place_of a.port others)) 0) a) q
    ≡ cond (a.port == q) (Some a.kind) (kind_in (b ∷ others) q)) [
      | true ↦ by_ports (b.port == q) (a.port == q) refl refl
          (kind-attached others a q (differs (b.port == a.port) none).1)
      | false ↦ elim (a.port == q) as
          (λ t. option_map (λ z. z.kind) (cond t (Some a) (first (λ z. z.port == q) (b ∷ others))) ≡ cond t
          (Some a.kind) (kind_in (b ∷ others) q)) [ true ↦ refl | false ↦ refl ]
    ]
  where
    differs : (t : Bool) → option_map (λ z. z.kind) (cond t (Some b) (first (λ z. z.port == a.port) others)) ≡ None
        → (t ≡ false) × (kind_in others a.port ≡ None)
    differs true h = cc
    differs false h = (refl, h)

    by_ports : (s t : Bool) → (b.port == q) ≡ s → (a.port == q) ≡ t
        → kind_in (insert others (place_of a.port others) a) q ≡ cond (a.port == q) (Some a.kind) (kind_in others q)
        → option_map (λ z. z.kind)
        (cond (b.port == q) (Some b) (first (λ z. z.port == q) (insert others (place_of a.port others) a)))
        ≡ cond (a.port == q) (Some a.kind)
        (option_map (λ z. z.kind) (cond (b.port == q) (Some b) (first (λ z. z.port == q) others)))
    by_ports true true e f rest =
        let same_port : b.port ≡ a.port = eqb-true b.port q e ∙ sym (eqb-true a.port q f) in
        let unlike = (differs (b.port == a.port) none).0 in
        let like = eq-eqb b.port a.port same_port in
        let never : true ≡ false = sym like ∙ unlike in cc
    by_ports true false e f rest = rw (e, f) refl
    by_ports _ _ e f rest = rw e (rest ∙ rw f refl)
