-- The warnings of a plan.
use Rattle.std.specs.Prelude.{◌≡◌, ◌⊎◌, ℕ, List, [], ◌∷◌, ◌++◌, map}
use Rattle.std.specs.List.{flat_map}
use Rattle.pb_lan.specs.Numbering.{numbers_from}
use Rattle.pb_lan.specs.declared.plan.Plan.{Plan}
use Rattle.pb_warnings.specs.declared.warning.Warning.{Warning}
use Rattle.pb_warnings.specs.declared.warning.Warning.TheVariants.{NeverTicks, Unlinked, TooFar, Unequal, NoPort, OnePort, Split}

-- all warnings that a plan can have about a bridge
abbrev pub about_bridge : ℕ → List Warning
about_bridge bridge = Unlinked bridge ∷ TooFar bridge ∷ []

-- all warnings that a plan can have about a service
abbrev pub about_service : ℕ → List Warning
about_service service = NoPort service ∷ OnePort service ∷ Split service ∷ []

-- all warnings that the plan can have, in order: about the network, its bridges, its links and its services
abbrev pub possible : Plan → List Warning
possible plan =
    NeverTicks ∷ flat_map about_bridge (numbers_from 1 plan.bridges) ++ map Unequal (numbers_from 1 plan.links)
    ++ flat_map about_service (numbers_from 1 plan.services)

-- the second list has exactly those entries of the first for which the fact holds, in order
abbrev pub AreThose : {X : Type 0} → (X → Type 0) → List X → List X → Type 0
AreThose P [] those = those ≡ []
AreThose {X} P (x ∷ xs) those =
    (P x × ((rest : List X) × (those ≡ x ∷ rest) × AreThose P xs rest)) ⊎ ((P x → ⊥) × AreThose P xs those)

-- the warning is added to those found if it is due
abbrev pub IsAdded : (P : Type 0) → Warning → List Warning → List Warning → Type 0
IsAdded P warning old new = (P × (new ≡ old ++ warning ∷ [])) ⊎ ((P → ⊥) × (new ≡ old))
