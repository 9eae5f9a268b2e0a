-- The wishes of a gate, and those that a place has fulfilled.
use Rattle.std.specs.Prelude.{◌≡◌, Bool, true, List, [], ◌∷◌, ◌++◌}
use Rattle.pb_lan.specs.declared.step.Place.{Place}
use Rattle.pb_threads.specs.declared.gate.Wish.{Wish}
use Rattle.pb_threads.specs.declared.turns.TurnStatus.{TurnStatus}
use Rattle.pb_threads.specs.declared.turns.TurnStatus.TheVariants.{Done}

-- which wish a gate may give for a place, after those that it gave for it and that were fulfilled
abbrev pub Giving : Type 0
Giving = Place → List Wish → Wish → Bool

-- each of these wishes was given after those before it
abbrev pub AreGiven : (List Wish → Wish → Bool) → List Wish → Type 0
AreGiven gives wishes = (before after : List Wish) (wish : Wish) → wishes ≡ before ++ wish ∷ after → gives before wish ≡ true

-- the place has fulfilled wishes that were given for it, in order, and no others
abbrev pub HasFulfilledGiven : {P D : Type 0} → Giving → (D → Place) → (P → D) → (P → List Wish) → P → Type 0
HasFulfilledGiven gives named given fulfilled place = AreGiven (gives (named (given place))) (fulfilled place)

-- the place has fulfilled no wish
abbrev pub HasFulfilledNone : {P : Type 0} → (P → List Wish) → P → Type 0
HasFulfilledNone fulfilled place = fulfilled place ≡ []

-- this wish was fulfilled if the turn is Done, and none otherwise
abbrev pub HasFulfilled : List Wish → Wish → TurnStatus → List Wish → Type 0
HasFulfilled old wish status new = (status ≡ Done → new ≡ old ++ wish ∷ []) × ((status ≡ Done → ⊥) → new ≡ old)

-- the customer ports, lanes and bridges of a run know the wishes of its gate
abbrev pub AreForGate : Giving → Giving → Giving → Giving → Type 0
AreForGate customers lanes bridges gate = (customers ≡ gate) × (lanes ≡ gate) × (bridges ≡ gate)
