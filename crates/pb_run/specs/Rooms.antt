-- The lists for what comes back of the places of a run, allocated before its start.
use Rattle.std.specs.Prelude.{◌≡◌, ℕ, ◌*◌, ◌++◌, ◌∷◌, [], length, vec_capacity}
use Rattle.std.specs.declared.vec.Vec.{Vec}
use Rattle.pb_lan.specs.declared.plan.Plan.{Plan}
use Rattle.pb_run.specs.declared.outside.Parts.{Parts}
use Rattle.pb_run.specs.declared.record.Gathered.{Gathered}
use Rattle.pb_run.specs.declared.rooms.GatheredPlaces.{GatheredPlaces}
use Rattle.pb_run.specs.declared.rooms.Rooms.{Rooms}

-- the list is empty, with capacity for this many items
abbrev pub IsEmptyFor : {X A : Type 0} → ℕ → Vec X A → Type 0
IsEmptyFor count list = (list.items ≡ []) × (vec_capacity list ≡ count)

-- one item was appended to the list, and its capacity is unchanged
abbrev pub IsPushed : {X A : Type 0} → Vec X A → X → Vec X A → Type 0
IsPushed old x new = (new.items ≡ old.items ++ x ∷ []) × (vec_capacity new ≡ vec_capacity old)

-- nothing is gathered yet, and there is capacity for this many places
pub record HasRoomFor (count : ℕ) (room : Gathered) : Type 0 where
  pub tallies : IsEmptyFor count room.tallies
  pub lists : IsEmptyFor count room.lists

-- nothing is gathered yet, and there is capacity for each place of the plan
pub record HasPlaceRooms {P : Type 0} (plan : Plan) (rooms : GatheredPlaces P) : Type 0 where
  pub customers : HasRoomFor (length plan.customers) rooms.customers
  pub lanes : HasRoomFor (2 * length plan.links) rooms.lanes
  pub bridges : HasRoomFor (length plan.bridges) rooms.bridges
  pub taps : IsEmptyFor (2 * length plan.links) rooms.taps

-- the lists for the parts of this many customer ports' workers are empty, with capacity for them
pub record HasPartRooms {A P : Type 0} (customers : ℕ) (rooms : Parts A P) : Type 0 where
  pub ports : IsEmptyFor customers rooms.ports
  pub accesses : IsEmptyFor customers rooms.accesses
  pub lasts : IsEmptyFor customers rooms.lasts

-- the lists for all that comes back of the plan's places are empty, with capacity for it
pub record HasRooms {C A P T : Type 0} (plan : Plan) (rooms : Rooms C A P T) : Type 0 where
  pub workers : IsEmptyFor (length plan.customers) rooms.workers
  pub parts : HasPartRooms (length plan.customers) rooms.parts
  pub gathered : HasPlaceRooms plan rooms.gathered
