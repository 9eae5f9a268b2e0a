-- Rulings by a list of cases, whatever the number and order of the cases.
use Rattle.std.proofs.Common.{◌≡◌, Bool, true, false, cond, ◌&&◌, ◌||◌, List, [], ◌∷◌, map, refl}
use Rattle.std.specs.List.{list_any, list_all}
use Rattle.pb_frame.proofs.Lists.{and-right}
use Rattle.pb_lan.specs.BridgeLists.{Ruling, first_case, refusing}
use Rattle.pb_lan.specs.BridgeLists.Ruling.{Refuses, Listens, LearnsOnly, Carries, Closed}
use Rattle.pb_frame.specs.declared.reason.Reason.{Reason}
use Rattle.pb_frame.specs.declared.reason.Reason.TheVariants.{Malformed, NotMember, Reserved, Worn}

-- the ruling refuses the frame or passes it to the bridge
abbrev pub stops : Ruling → Bool
stops (Refuses reason) = true
stops Listens = true
stops (LearnsOnly vid) = false
stops (Carries vid) = false
stops Closed = false

-- the ruling passes a BPDU to the bridge
abbrev pub is_listening : Ruling → Bool
is_listening Listens = true
is_listening _ = false

abbrev pub is_malformed : Ruling → Bool
is_malformed (Refuses Malformed) = true
is_malformed _ = false

abbrev pub is_not_member : Ruling → Bool
is_not_member (Refuses NotMember) = true
is_not_member _ = false

abbrev pub is_reserving : Ruling → Bool
is_reserving (Refuses (Reserved last)) = true
is_reserving _ = false

abbrev pub is_wearing : Ruling → Bool
is_wearing (Refuses Worn) = true
is_wearing _ = false

-- some case with a ruling of this kind holds
abbrev pub holds : (Ruling → Bool) → List (Bool × Ruling) → Bool
holds kind cs = list_any (λ c. kind c.1 && c.0) cs

-- of two tests that both fail, the first fails
pub neither-left : (a b : Bool) → (a || b) ≡ false → a ≡ false
neither-left true b h = cc
neither-left false b h = refl

pub neither-right : (a b : Bool) → (a || b) ≡ false → b ≡ false
neither-right true b h = cc
neither-right false b h = h

passed : (a b : Bool) → b ≡ false → ((a && false) || b) ≡ false
passed true b h = h
passed false b h = h

-- if each case stops the frame and the ruling does not, no case holds and the ruling is the one without a case
pub none-holds : (cs : List (Bool × Ruling)) (rest target : Ruling) → list_all (λ c. stops c.1) cs ≡ true
    → stops target ≡ false → first_case cs rest ≡ target → ((kind : Ruling → Bool) → holds kind cs ≡ false)
    × (rest ≡ target)
none-holds [] rest target all on h = (λ kind. refl, h)
none-holds ((true, g) ∷ cs) rest target all on h = stopped g target _ all on h
  where
    stopped : {X : Type 0} (g target : Ruling) (b : Bool) → (stops g && b) ≡ true → stops target ≡ false
        → g ≡ target → X
    stopped (Refuses reason) target b all on h = cc
    stopped Listens target b all on h = cc
    stopped (LearnsOnly vid) target b all on h = cc
    stopped (Carries vid) target b all on h = cc
    stopped Closed target b all on h = cc
none-holds ((false, g) ∷ cs) rest target all on h =
    let r = none-holds cs rest target (and-right (stops g) _ all) on h in
    (λ kind. passed (kind g) _ (r.0 kind), r.1)

-- a property of all refusals and of the ruling without a case holds of the ruling
pub refusing-is : (P : Ruling → Type 0) (cs : List (Bool × Reason)) (rest : Ruling)
    → ((r : Reason) → P (Refuses r)) → P rest → P (first_case (map refusing cs) rest)
refusing-is P [] rest refused left = left
refusing-is P (c ∷ cs) rest refused left =
    elim (c.0) as (λ b. P (cond b (Refuses c.1) (first_case (map refusing cs) rest))) [
      | true ↦ refused c.1
      | false ↦ refusing-is P cs rest refused left
    ]

-- the cases that come before one that passes a BPDU to the bridge
abbrev pub before_listening : List (Bool × Ruling) → List (Bool × Ruling)
before_listening [] = []
before_listening (c ∷ cs) = cond (is_listening c.1) [] (c ∷ before_listening cs)

-- if a BPDU is passed to the bridge, a case that does so holds, and none of the cases before such a one
pub heard : (cs : List (Bool × Ruling)) (rest : Ruling) → is_listening rest ≡ false → first_case cs rest ≡ Listens
    → (holds is_listening cs ≡ true) × ((kind : Ruling → Bool) → holds kind (before_listening cs) ≡ false)
heard ((true, Listens) ∷ cs) rest n h = (refl, λ kind. refl)
heard ((false, Listens) ∷ cs) rest n h = ((heard cs rest n h).0, λ kind. refl)
heard ((false, Refuses reason) ∷ cs) rest n h =
    let r = heard cs rest n h in (r.0, λ kind. passed (kind (Refuses reason)) _ (r.1 kind))
heard ((false, LearnsOnly vid) ∷ cs) rest n h =
    let r = heard cs rest n h in (r.0, λ kind. passed (kind (LearnsOnly vid)) _ (r.1 kind))
heard ((false, Carries vid) ∷ cs) rest n h =
    let r = heard cs rest n h in (r.0, λ kind. passed (kind (Carries vid)) _ (r.1 kind))
heard ((false, Closed) ∷ cs) rest n h = let r = heard cs rest n h in (r.0, λ kind. passed (kind Closed) _ (r.1 kind))
heard _ rest n h = cc
