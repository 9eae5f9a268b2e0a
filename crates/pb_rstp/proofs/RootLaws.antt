-- The computed root priority vector is the best candidate, and the only one.
use Rattle.std.proofs.Common.{◌≡◌, ◌⊎◌, ℕ, List, [], ◌∷◌, ◌++◌, Some, None, refl, sym, ◌∙◌, subst, Bool, true, false}
use Rattle.std.proofs.Common.{◌==◌, if◌then◌else◌, inl, inr}
use Rattle.std.specs.declared.option.Option.{Option}
use Rattle.std.specs.List.{flat_map}
use Rattle.std.proofs.lemmas.Bool.{eqb-true, eqb-false}
use Rattle.pb_rstp.specs.Vectors.{is_better, own_vector}
use Rattle.pb_rstp.specs.Ports.{root_path}
use Rattle.pb_rstp.specs.declared.port.Info.{Info}
use Rattle.pb_rstp.specs.declared.port.Port.{Port}
use Rattle.pb_rstp.specs.Roles.{offer_of, offers, best, root_vector, IsWay, IsWayOfSome, IsRootVector}
use Rattle.pb_rstp.specs.declared.vector.Vector.{Vector}
use Rattle.pb_rstp.proofs.OrderLaws.{better-irrefl, better-asym, better-antisym, not_better-trans}

-- a vector is in a list
abbrev pub In : Vector → List Vector → Type 0
In v [] = ⊥
In v (w ∷ ws) = (v ≡ w) ⊎ In v ws

-- a vector in a joined list is in one of its parts
pub in-append : (v : Vector) (us ws : List Vector) → In v (us ++ ws) → In v us ⊎ In v ws
in-append v [] ws h = inr h
in-append v (u ∷ us) ws (inl e) = inl (inl e)
in-append v (u ∷ us) ws (inr h) = elim (in-append v us ws h) [ inl a ↦ inl (inr a) | inr b ↦ inr b ]

-- a vector in the first part is in the joined list
pub in_left : (v : Vector) (us ws : List Vector) → In v us → In v (us ++ ws)
in_left v [] ws h = absurd h
in_left v (u ∷ us) ws (inl e) = inl e
in_left v (u ∷ us) ws (inr h) = inr (in_left v us ws h)

-- a vector in the second part is in the joined list
pub in_right : (v : Vector) (us ws : List Vector) → In v ws → In v (us ++ ws)
in_right v [] ws h = h
in_right v (u ∷ us) ws h = inr (in_right v us ws h)

-- the better of two vectors, or the first if neither is
abbrev pub pick : Vector → Vector → Vector
pick v w = if is_better w v then w else v

-- what holds of the better of two: it is one of them, and neither is better
pub record Picks (v w p : Vector) : Type 0 where
  one : (p ≡ v) ⊎ (p ≡ w)
  first : is_better v p ≡ false
  second : is_better w p ≡ false

-- the better of two has that property
pub picks : (v w : Vector) → Picks v w (pick v w)
picks v w = by_test (is_better w v) refl
  where
    by_test : (t : Bool) → is_better w v ≡ t → Picks v w (if t then w else v)
    by_test true e = record { one = inr refl; first = better-asym w v e; second = better-irrefl w }
    by_test false e = record { one = inl refl; first = better-irrefl v; second = e }

-- the best vector is one of those compared
pub best-in : (v : Vector) (ws : List Vector) → (best v ws ≡ v) ⊎ In (best v ws) ws
best-in v [] = inl refl
best-in v (w ∷ ws) = elim (best-in (pick v w) ws) [
  | inl e ↦ elim ((picks v w).one) [ inl p ↦ inl (e ∙ p) | inr q ↦ inr (inl (e ∙ q)) ]
  | inr h ↦ inr (inr h)
]

-- the vector at the start of the search is not better than the best
pub best-start : (v : Vector) (ws : List Vector) → is_better v (best v ws) ≡ false
best-start v [] = better-irrefl v
best-start v (w ∷ ws) = not_better-trans v (pick v w) (best (pick v w) ws) (picks v w).first (best-start (pick v w) ws)

-- no vector of the list is better than the best
pub best-least : (v : Vector) (ws : List Vector) (u : Vector) → In u ws → is_better u (best v ws) ≡ false
best-least v [] u h = absurd h
best-least v (w ∷ ws) u (inl e) =
    let P : Vector → Type 0 = λ z. is_better z (best (pick v w) ws) ≡ false in
    subst P (sym e) (not_better-trans w (pick v w) (best (pick v w) ws) (picks v w).second (best-start (pick v w) ws))
best-least v (w ∷ ws) u (inr h) = best-least (pick v w) ws u h

-- a root path priority vector is among those that a port offers
pub way_offered : (id : ℕ) (p : Port) (v : Vector) → IsWay id p v → In v (offers id p)
way_offered id p v (info, enabled, stored, other, is) =
    let P : Bool → Option Info → Type 0 = λ b o. In v (if b then offer_of id p o else []) in
    rw (enabled, stored) (by_test (info.bridge == id) refl)
  where
    by_test : (t : Bool) → (info.bridge == id) ≡ t → In v (if t then [] else root_path p info ∷ [])
    by_test true e = absurd (other (eqb-true info.bridge id e))
    by_test false e = inl is

-- what a port offers is a root path priority vector
pub offered_way : (id : ℕ) (p : Port) (v : Vector) → In v (offers id p) → IsWay id p v
offered_way id p v h = by_enabled p.port_enabled refl h
  where
    by_bridge : (info : Info) → p.port_enabled ≡ true → p.info ≡ Some info → (t : Bool) → (info.bridge == id) ≡ t
        → In v (if t then [] else root_path p info ∷ []) → IsWay id p v
    by_bridge info enabled stored true e h = absurd h
    by_bridge info enabled stored false e (inl is) = (info, enabled, stored, eqb-false info.bridge id e, is)
    by_bridge info enabled stored false e (inr none) = absurd none

    by_info : p.port_enabled ≡ true → (o : Option Info) → p.info ≡ o → In v (offer_of id p o) → IsWay id p v
    by_info enabled None stored h = absurd h
    by_info enabled (Some info) stored h = by_bridge info enabled stored (info.bridge == id) refl h

    by_enabled : (b : Bool) → p.port_enabled ≡ b → In v (if b then offer_of id p p.info else []) → IsWay id p v
    by_enabled true enabled h = by_info enabled p.info refl h
    by_enabled false enabled h = absurd h

-- the same for all ports of a bridge, in the one direction
pub ways_offered : (id : ℕ) (ports : List Port) (v : Vector) → IsWayOfSome id ports v
    → In v (flat_map (offers id) ports)
ways_offered id [] v h = absurd h
ways_offered id (p ∷ ps) v (inl way) = in_left v (offers id p) (flat_map (offers id) ps) (way_offered id p v way)
ways_offered id (p ∷ ps) v (inr h) = in_right v (offers id p) (flat_map (offers id) ps) (ways_offered id ps v h)

-- and in the other
pub offered_ways : (id : ℕ) (ports : List Port) (v : Vector) → In v (flat_map (offers id) ports)
    → IsWayOfSome id ports v
offered_ways id [] v h = absurd h
offered_ways id (p ∷ ps) v h = elim (in-append v (offers id p) (flat_map (offers id) ps) h)
    [ inl a ↦ inl (offered_way id p v a) | inr b ↦ inr (offered_ways id ps v b) ]

-- the computed root priority vector is the best candidate
pub root_vector-is : (id : ℕ) (ports : List Port) → IsRootVector id ports (root_vector id ports)
root_vector-is id ports = record {
  candidate = elim (best-in (own_vector id) (flat_map (offers id) ports))
      [ inl e ↦ inl e | inr h ↦ inr (offered_ways id ports (root_vector id ports) h) ];
  least = λ v candidate. elim candidate as (λ c. is_better v (root_vector id ports) ≡ false) [
    | inl e ↦ let P : Vector → Type 0 = λ z. is_better z (root_vector id ports) ≡ false in
        subst P (sym e) (best-start (own_vector id) (flat_map (offers id) ports))
    | inr h ↦ best-least (own_vector id) (flat_map (offers id) ports) v (ways_offered id ports v h)
  ];
}

-- there is only one best candidate
pub root_vector-unique : (id : ℕ) (ports : List Port) (v w : Vector) → IsRootVector id ports v
    → IsRootVector id ports w → v ≡ w
root_vector-unique id ports v w a b = better-antisym v w (b.least v a.candidate) (a.least w b.candidate)
