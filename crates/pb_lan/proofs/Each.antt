-- Properties of each end of each link.
use Rattle.std.proofs.Common.{List, [], ◌∷◌, IsTrue, Bool, ◌↔◌, flat_map}
use Rattle.std.proofs.lemmas.List.Elements.{All-from_recursion, recursion_from_All}
use Rattle.std.specs.List.{All, AllByRecursion}
use Rattle.pb_lan.specs.Ports.{ends_of}
use Rattle.pb_lan.specs.declared.plan.End.{End}
use Rattle.pb_lan.specs.declared.plan.LinkPlan.{LinkPlan}

pub by_recursion : {X : Type 0} (P : X → Type 0) (xs : List X) {r : Bool} → IsTrue r ↔ All P xs
    → IsTrue r ↔ AllByRecursion P xs
by_recursion P xs h = ((λ t. recursion_from_All P xs (h.0 t)), (λ a. h.1 (All-from_recursion P xs a)))

-- a property of both ends of each link holds of all ends
ends_on : (P : End → Type 0) (links : List LinkPlan) → AllByRecursion (λ l. P l.a × P l.b) links
    → AllByRecursion P (flat_map ends_of links)
ends_on P [] h = tt
ends_on P (l ∷ links) (ends, rest) = (ends.0, (ends.1, ends_on P links rest))

links_on : (P : End → Type 0) (links : List LinkPlan) → AllByRecursion P (flat_map ends_of links)
    → AllByRecursion (λ l. P l.a × P l.b) links
links_on P [] h = tt
links_on P (l ∷ links) (a, (b, rest)) = ((a, b), links_on P links rest)

pub by_ends : (P : End → Type 0) (links : List LinkPlan) {r : Bool} → IsTrue r ↔ All (λ l. P l.a × P l.b) links
    → IsTrue r ↔ AllByRecursion P (flat_map ends_of links)
by_ends P links h =
    let each = by_recursion (λ (l : LinkPlan). P l.a × P l.b) links h in
    ((λ t. ends_on P links (each.0 t)), (λ a. each.1 (links_on P links a)))
