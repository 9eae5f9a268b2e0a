-- What a place has in hand.
use Rattle.std.specs.Prelude.{◌≡◌, ℕ, ◌-◌, ◌<◌, ◌^◌, Bool, true, false, List, [], ◌∷◌, ◌++◌, Some, None, length, slice_get}
use Rattle.std.specs.declared.option.Option.{Option}
use Rattle.pb_lan.specs.declared.step.Item.{Item}
use Rattle.pb_lan.specs.declared.step.Step.{Step}
use Rattle.pb_lan.specs.declared.step.Step.TheVariants.{Poll, Take}
use Rattle.pb_link.specs.declared.holding.Holding.{Holding}
use Rattle.pb_link.specs.declared.holding.Holding.TheVariants.{Nothing, At, This}

-- the item that a step brought, if it is a Poll or a Take
abbrev pub brought_by : Step → Option Item
brought_by (Poll item) = Some item
brought_by (Take number item lost) = Some item
brought_by _ = None

abbrev pub brought_at : Option Step → Option Item
brought_at None = None
brought_at (Some step) = brought_by step

-- the item in hand of a place that took these steps
abbrev pub held : List Step → Holding → Option Item
held steps Nothing = None
held steps (At place) = brought_at (slice_get steps place)
held steps (This item) = Some item

abbrev pub is_nothing : Holding → Bool
is_nothing Nothing = true
is_nothing (At place) = false
is_nothing (This item) = false

-- the hand that holds this item by value, or none
abbrev pub this_of : Option Item → Holding
this_of None = Nothing
this_of (Some item) = This item

-- the hand after a step was appended at an index, or was given back
abbrev pub holding_of : ℕ → Option Step → Holding
holding_of place None = At place
holding_of place (Some step) = this_of (brought_by step)

-- the one item that came and has not gone is in hand: by the index of its step if steps are kept, by value if they are
-- only counted
abbrev pub IsHand : List Step → Bool → List Item → List Item → Holding → Type 0
IsHand steps is_kept gone come Nothing = gone ≡ come
IsHand steps is_kept gone come (At place) = (is_kept ≡ true) × (item : Item) × (held steps (At place) ≡ Some item) × (gone ++ item ∷ [] ≡ come)
IsHand steps is_kept gone come (This item) = (is_kept ≡ false) × (gone ++ item ∷ [] ≡ come)

-- if a step is reserved, 64 bits count one more
abbrev pub HasRoom : List Step → Bool → Type 0
HasRoom steps is_reserved = is_reserved ≡ true → length steps < 2 ^ 64 - 1
