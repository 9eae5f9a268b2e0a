-- The root vector and the roles (IEEE 802.1D-2004 clauses 17.6, 17.7 and 17.21.25).
use Rattle.std.specs.Prelude.{◌≡◌, ◌≢◌, ℕ, ◌⊎◌, Bool, true, false, List, [], ◌∷◌, Some, None, ◌==◌, if◌then◌else◌}
use Rattle.std.specs.declared.option.Option.{Option}
use Rattle.std.specs.List.{flat_map, AllByRecursion}
use Rattle.pb_rstp.specs.Vectors.{is_better, own_vector}
use Rattle.pb_rstp.specs.Ports.{id_of, stored_vector, root_path, designated_vector}
use Rattle.pb_rstp.specs.declared.port.Info.{Info}
use Rattle.pb_rstp.specs.declared.port.Port.{Port}
use Rattle.pb_rstp.specs.declared.vector.Vector.{Vector}
use Rattle.pb_rstp.specs.declared.role.Role.{Role}
use Rattle.pb_rstp.specs.declared.role.Role.TheVariants.{Disabled, Root, Designated, Alternate, Backup}

-- the root path priority vector of a port that stores this, if another bridge sent it (clause 17.6)
abbrev pub offer_of : ℕ → Port → Option Info → List Vector
offer_of id p None = []
offer_of id p (Some info) = if info.bridge == id then [] else root_path p info ∷ []

-- the root path priority vector of a port, if it is enabled and stores one (clause 17.6)
abbrev pub offers : ℕ → Port → List Vector
offers id p = if p.port_enabled then offer_of id p p.info else []

-- the best of a vector and a list of vectors
abbrev pub best : Vector → List Vector → Vector
best v [] = v
best v (w ∷ ws) = best (if is_better w v then w else v) ws

-- the root priority vector: the best of the bridge's own vector and its ports' root path priority vectors (clauses
-- 17.6 and 17.21.25)
abbrev pub root_vector : ℕ → List Port → Vector
root_vector id ports = best (own_vector id) (flat_map (offers id) ports)

-- the root priority vector was received at this port
abbrev pub came_from : Vector → Port → Bool
came_from root p = root.receiving == id_of p

-- the role of an enabled port that is not the Root port: Designated, Backup or Alternate (clause 17.21.25)
abbrev pub other_role : ℕ → Vector → Port → Option Info → Role
other_role id root p None = Designated
other_role id root p (Some info) =
    if is_better (designated_vector id root p) (stored_vector p info)
    then Designated
    else (if info.bridge == id then Backup else Alternate)

-- the role of a port under a root priority vector (clause 17.21.25)
abbrev pub role_by : ℕ → Vector → Port → Role
role_by id root p =
    if p.port_enabled then (if came_from root p then Root else other_role id root p p.info) else Disabled

-- The same as properties, without a computation.

-- a vector is the root path priority vector of an enabled port that stores information of another bridge (clause
-- 17.6)
abbrev pub IsWay : ℕ → Port → Vector → Type 0
IsWay id p v =
    (info : Info) × (p.port_enabled ≡ true) × (p.info ≡ Some info) × (info.bridge ≢ id) × (v ≡ root_path p info)

-- a vector is the root path priority vector of one of these ports
abbrev pub IsWayOfSome : ℕ → List Port → Vector → Type 0
IsWayOfSome id [] v = ⊥
IsWayOfSome id (p ∷ ps) v = IsWay id p v ⊎ IsWayOfSome id ps v

-- a vector may be the root priority vector: the bridge's own vector, or a port's root path priority vector (clause
-- 17.6)
abbrev pub IsCandidate : ℕ → List Port → Vector → Type 0
IsCandidate id ports v = (v ≡ own_vector id) ⊎ IsWayOfSome id ports v

-- the root priority vector is a candidate, and no candidate is better (clause 17.6)
pub record IsRootVector (id : ℕ) (ports : List Port) (root : Vector) : Type 0 where
  pub candidate : IsCandidate id ports root
  pub least : (v : Vector) → IsCandidate id ports v → is_better v root ≡ false

-- the port stores nothing, or its designated priority vector is better than what it stores
abbrev pub OffersBetter : ℕ → Vector → Port → Option Info → Type 0
OffersBetter id root p None = Unit {0}
OffersBetter id root p (Some info) = is_better (designated_vector id root p) (stored_vector p info) ≡ true

-- the port stores a vector as good as its designated one or better, from its own bridge or from another
abbrev pub StoresBetter : ℕ → Vector → Port → Option Info → Bool → Type 0
StoresBetter id root p None own = ⊥
StoresBetter id root p (Some info) own =
    (is_better (designated_vector id root p) (stored_vector p info) ≡ false) × ((info.bridge == id) ≡ own)

-- the port has this role, case by case (clause 17.7)
abbrev pub HasRole : ℕ → Vector → Port → Role → Type 0
HasRole id root p Disabled = p.port_enabled ≡ false
HasRole id root p Root = (p.port_enabled ≡ true) × (came_from root p ≡ true)
HasRole id root p Designated = (p.port_enabled ≡ true) × (came_from root p ≡ false) × OffersBetter id root p p.info
HasRole id root p Backup = (p.port_enabled ≡ true) × (came_from root p ≡ false) × StoresBetter id root p p.info true
HasRole id root p Alternate = (p.port_enabled ≡ true) × (came_from root p ≡ false) × StoresBetter id root p p.info false

-- each port has the role that the root priority vector gives it (clause 17.7)
abbrev pub HasRoles : ℕ → List Port → Type 0
HasRoles id ports = AllByRecursion (λ p. (root : Vector) → IsRootVector id ports root → HasRole id root p p.role) ports
