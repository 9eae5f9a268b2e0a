-- The services for which a shape is no forest (used by `looping`).
use Rattle.std.proofs.Common.{◌≡◌, ℕ, suc, true, false, Option, is_some, None, ◌+◌, ◌<◌, inl, inr, List}
use Rattle.std.proofs.Common.{◌∷◌, Some, length, drop, get_or, unwrap_or, refl, sym, ap, subst, ◌∙◌, add-one}
use Rattle.std.proofs.lemmas.Option.{slice_get-get_or}
use Rattle.std.specs.Option.{option_map}
use Rattle.pb_forest.specs.Searching.{AnswersForest}
use Rattle.pb_forest.specs.ServiceVids.{vid_numbered}
use Rattle.pb_lan.specs.Forests.{IsForest}
use Rattle.pb_lan.specs.Numbering.{numbered}
use Rattle.pb_lan.specs.declared.plan.Plan.{Plan}
use Rattle.pb_lan.specs.declared.plan.ServicePlan.{ServicePlan}
use Rattle.pb_lan.specs.declared.shape.Shape.{Shape}
use Rattle.pb_lan.specs.declared.shape.Rooted.{Rooted}
use Rattle.pb_report.specs.ForestTexts.{AreLooping}

-- the VID of a service by its number
pub vid_there : (plan : Plan) (i : ℕ) (service : ServicePlan) → i < length plan.services
    → service ≡ get_or plan.services i service → vid_numbered plan (i + 1) ≡ service.vid
vid_there plan i service h e =
    ap (λ n. unwrap_or (option_map (λ s. s.vid) (numbered plan.services n)) 0) {x = i + 1} {y = suc i} (add-one i)
    ∙ ap (λ o. unwrap_or (option_map (λ s. s.vid) o) 0) (slice_get-get_or plan.services i service h ∙ ap (λ z. Some z)
    (sym e))

-- the list of names with a service that has a loop, and with one that has none
pub with_ring : (plan : Plan) (shape : Shape) (services : List ServicePlan) (i : ℕ) (service : ServicePlan)
    (rest : List (List ℕ)) → drop i services ≡ service ∷ drop (i + 1) services
    → (IsForest plan shape service.vid → ⊥) → AreLooping plan shape (drop (i + 1) services) rest
    → AreLooping plan shape (drop i services) (service.name ∷ rest)
with_ring plan shape services i service rest e none are =
    subst (λ z. AreLooping plan shape z (service.name ∷ rest)) (sym e) (rest, are, inr (none, refl))

pub without_ring : (plan : Plan) (shape : Shape) (services : List ServicePlan) (i : ℕ) (service : ServicePlan)
    (rest : List (List ℕ)) → drop i services ≡ service ∷ drop (i + 1) services
    → IsForest plan shape service.vid → AreLooping plan shape (drop (i + 1) services) rest
    → AreLooping plan shape (drop i services) rest
without_ring plan shape services i service rest e forest are =
    subst (λ z. AreLooping plan shape z rest) (sym e) (rest, are, inl (forest, refl))

-- if the search for a forest finds none, there is none
pub ring_told : (plan : Plan) (shape : Shape) (vid : ℕ) (o : Option Rooted) → AnswersForest plan shape vid o
    → is_some o ≡ false → IsForest plan shape vid → ⊥
ring_told plan shape vid None none e = none
ring_told plan shape vid (Some rooted) shows e = cc

pub forest_told : (plan : Plan) (shape : Shape) (vid : ℕ) (o : Option Rooted) → AnswersForest plan shape vid o
    → is_some o ≡ true → IsForest plan shape vid
forest_told plan shape vid None none e = cc
forest_told plan shape vid (Some rooted) shows e = (rooted, shows)
