-- What is known of places that work together, and of the places that come back.
use Rattle.std.specs.Prelude.{◌≡◌, List, All, map}
use Rattle.pb_threads.specs.Wishes.{HasFulfilledNone}
use Rattle.pb_threads.specs.declared.gate.Wish.{Wish}
use Rattle.pb_threads.specs.declared.threads.Places.{Places}

-- each place is as it may be between turns
abbrev pub AllFit : {C L B : Type 0} → (C → Type 0) → (L → Type 0) → (B → Type 0) → Places C L B → Type 0
AllFit customer lane bridge places =
    All customer places.customers.items × All lane places.lanes.items × All bridge places.bridges.items

-- no place has fulfilled a wish
abbrev pub NoneFulfilled : {C L B : Type 0} → (C → List Wish) → (L → List Wish) → (B → List Wish) → Places C L B → Type 0
NoneFulfilled customer lane bridge places =
    AllFit (HasFulfilledNone customer) (HasFulfilledNone lane) (HasFulfilledNone bridge) places

-- the places of one kind are back: each with what it was given, and as it may be between turns
abbrev pub AreBack : {P G : Type 0} → (P → G) → (P → Type 0) → List P → List P → Type 0
AreBack given fits was back = (map given back ≡ map given was) × All fits back

-- the places came back unchanged
abbrev pub AreUntouched : {C L B : Type 0} → Places C L B → Places C L B → Type 0
AreUntouched was back =
    (back.customers.items ≡ was.customers.items) × (back.lanes.items ≡ was.lanes.items) × (back.bridges.items ≡ was.bridges.items)

-- the places are these, by kind
abbrev pub ArePlacesOf : {C L B : Type 0} → List C → List L → List B → Places C L B → Type 0
ArePlacesOf customers lanes bridges places =
    (places.customers.items ≡ customers) × (places.lanes.items ≡ lanes) × (places.bridges.items ≡ bridges)
