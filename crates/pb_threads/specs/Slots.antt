-- What is known of a place in its slot.
use Rattle.std.specs.Prelude.{◌≡◌, ◌++◌, ℕ, List, Some, length, map, slice_get}

-- the place has what the place of this index was given
abbrev pub HasGift : {P G : Type 0} → (P → G) → List P → ℕ → P → Type 0
HasGift given places index place = slice_get (map given places) index ≡ Some (given place)

-- the place is as it may be between turns, with what the place of this index was given
abbrev pub IsKept : {P G : Type 0} → (P → G) → (P → Type 0) → List P → ℕ → P → Type 0
IsKept given fits places index place = fits place × HasGift given places index place

-- this many of the items are done, and these remain
pub record HasDone {X : Type 0} (all : List X) (done : ℕ) (left : List X) : Type 0 where
  pub before : List X
  pub parts : all ≡ before ++ left
  pub count : done ≡ length before
