-- Wishes that are given, one after the other.
use Rattle.std.proofs.Common.{◌≡◌, Bool, true, List, [], ◌∷◌, ◌++◌, All, refl, sym, ap, ◌∙◌, subst}
use Rattle.pb_lan.specs.declared.step.Place.{Place}
use Rattle.pb_threads.specs.Together.{AllFit, NoneFulfilled}
use Rattle.pb_threads.specs.Wishes.{Giving, AreGiven, HasFulfilledGiven, HasFulfilledNone}
use Rattle.pb_threads.specs.declared.gate.Wish.{Wish}
use Rattle.pb_threads.specs.declared.threads.Places.{Places}

-- an empty list has no wish
nothing_there : (before after : List Wish) (wish : Wish) → [] ≡ before ++ wish ∷ after → ⊥
nothing_there [] after wish e = cc
nothing_there (b ∷ bs) after wish e = cc

-- each wish of an empty list was given
pub none_given : (gives : List Wish → Wish → Bool) (wishes : List Wish) → wishes ≡ [] → AreGiven gives wishes
none_given gives wishes none before after wish e = absurd (nothing_there before after wish (sym none ∙ e))

-- one more wish is given after all others
last_given : (gives : List Wish → Wish → Bool) (wishes : List Wish) (last : Wish) → AreGiven gives wishes
    → gives wishes last ≡ true → (before after : List Wish) (wish : Wish)
    → wishes ++ last ∷ [] ≡ before ++ wish ∷ after → gives before wish ≡ true
last_given gives [] last are may [] after wish e =
    let same : last ≡ wish = cc in
    ap (gives []) (sym same) ∙ may
last_given gives [] last are may (b ∷ bs) after wish e =
    let rest : [] ≡ bs ++ wish ∷ after = cc in
    absurd (nothing_there bs after wish rest)
last_given gives (x ∷ xs) last are may [] after wish e =
    let same : x ≡ wish = cc in
    ap (gives []) (sym same) ∙ are [] xs x refl
last_given gives (x ∷ xs) last are may (b ∷ bs) after wish e =
    let heads : x ≡ b = cc in
    let tails : xs ++ last ∷ [] ≡ bs ++ wish ∷ after = cc in
    ap (λ y. gives (y ∷ bs) wish) (sym heads)
    ∙ last_given (λ ws. gives (x ∷ ws)) xs last (λ p q w is. are (x ∷ p) q w (ap (λ ws. x ∷ ws) is)) may bs after wish
    tails

pub more_given : (gives : List Wish → Wish → Bool) (olds news : List Wish) (last : Wish) → AreGiven gives olds
    → gives olds last ≡ true → news ≡ olds ++ last ∷ [] → AreGiven gives news
more_given gives olds news last are may more before after wish e =
    last_given gives olds last are may before after wish (sym more ∙ e)

-- a place that has fulfilled no wish has fulfilled only wishes that were given
pub none_fulfilled : {P D : Type 0} (gives : Giving) (named : D → Place) (given : P → D) (fulfilled : P → List Wish)
    (place : P) → HasFulfilledNone fulfilled place → HasFulfilledGiven gives named given fulfilled place
none_fulfilled gives named given fulfilled place none = none_given (gives (named (given place))) (fulfilled place) none

pub all_none : {P D : Type 0} (gives : Giving) (named : D → Place) (given : P → D) (fulfilled : P → List Wish)
    (places : List P) → All (HasFulfilledNone fulfilled) places
    → All (HasFulfilledGiven gives named given fulfilled) places
all_none gives named given fulfilled places none k d less =
    none_fulfilled gives named given fulfilled _ (none k d less)

-- no place has fulfilled a wish, and so only wishes that were given
pub none_at_all : {C L B D E F : Type 0} (gives : Giving) (customer_named : D → Place) (customer_given : C → D)
    (customer : C → List Wish) (lane_named : E → Place) (lane_given : L → E) (lane : L → List Wish)
    (bridge_named : F → Place) (bridge_given : B → F) (bridge : B → List Wish) (places : Places C L B)
    → NoneFulfilled customer lane bridge places
    → AllFit (HasFulfilledGiven gives customer_named customer_given customer)
    (HasFulfilledGiven gives lane_named lane_given lane) (HasFulfilledGiven gives bridge_named bridge_given bridge) places
none_at_all gives customer_named customer_given customer lane_named lane_given lane bridge_named bridge_given bridge
    places none = (
      all_none gives customer_named customer_given customer places.customers.items none.0,
      all_none gives lane_named lane_given lane places.lanes.items none.1,
      all_none gives bridge_named bridge_given bridge places.bridges.items none.2,
    )

-- the place fulfilled one more wish, which was given after those before it
pub more_fulfilled : {P D : Type 0} (gives : Giving) (named : D → Place) (given : P → D) (fulfilled : P → List Wish)
    (old new : P) (wish : Wish) → given new ≡ given old → fulfilled new ≡ fulfilled old ++ wish ∷ []
    → gives (named (given old)) (fulfilled old) wish ≡ true
    → HasFulfilledGiven gives named given fulfilled old → HasFulfilledGiven gives named given fulfilled new
more_fulfilled gives named given fulfilled old new wish same more may are =
    subst (λ d. AreGiven (gives (named d)) (fulfilled new)) (sym same)
    (more_given (gives (named (given old))) (fulfilled old) (fulfilled new) wish are may more)

-- the wish that the gate gives a place comes after those that the place has fulfilled
pub may_fulfil : {P D : Type 0} (mine gates : Giving) (named : D → Place) (given : P → D) (fulfilled : P → List Wish)
    (place : P) (at : Place) (past : List Wish) (wish : Wish) → mine ≡ gates → at ≡ named (given place)
    → past ≡ fulfilled place → gates at past wish ≡ true → mine (named (given place)) (fulfilled place) wish ≡ true
may_fulfil mine gates named given fulfilled place at past wish same is known may =
    ap (λ (g : Giving). g (named (given place)) (fulfilled place) wish) same
    ∙ ap (λ p. gates p (fulfilled place) wish) (sym is) ∙ ap (λ ws. gates at ws wish) (sym known) ∙ may
