-- The changes of the ends of links, gathered one link after the other.
use Rattle.std.proofs.Common.{◌≡◌, ℕ, ◌+◌, ◌<◌, Bool, List, [], ◌∷◌, ◌++◌, length, get_or, take, map, flat_map}
use Rattle.std.proofs.Common.{sym, ap, subst, ◌∙◌, append-nil}
use Rattle.std.proofs.lemmas.Grind.{flat_map-append}
use Rattle.std.proofs.lemmas.List.{take_more}
use Rattle.std.proofs.lemmas.List.Elements.{All-from_recursion, recursion_from_All}
use Rattle.std.specs.List.{All, AllByRecursion}
use Rattle.pb_frame.proofs.Lists.{All-append, All-flat_map-at, All-map, All-unmap}
use Rattle.pb_frame.proofs.Things.{here_is}
use Rattle.pb_lan.specs.declared.plan.End.{End}
use Rattle.pb_control_socket.specs.Requests.{set_end}
use Rattle.pb_control_socket.specs.declared.request.Request.{Request}

-- what holds of the changes of ends, end by end, and the converse
pub of_ends : (P : Request → Type 0) (up : Bool) (ends : List End) → All P (map (set_end up) ends)
    → AllByRecursion (λ e. P (set_end up e)) ends
of_ends P up ends all =
    All-unmap P (set_end up) ends (recursion_from_All P (map (set_end up) ends) all)

pub of_changes : (P : Request → Type 0) (up : Bool) (ends : List End)
    → AllByRecursion (λ e. P (set_end up e)) ends → All P (map (set_end up) ends)
of_changes P up ends every =
    All-from_recursion P (map (set_end up) ends) (All-map P (set_end up) ends every)

-- what holds of the parts of all items holds of those of each item
pub parts_here : {X Y : Type 0} (P : Y → Type 0) (f : X → List Y) (items all : List X) (k : ℕ) (x : X)
    → items ≡ all → k < length items → x ≡ get_or items k x
    → AllByRecursion P (flat_map f all) → AllByRecursion P (f x)
parts_here P f items all k x same within is every =
    let whole = subst (λ xs. AllByRecursion P (flat_map f xs)) (sym same) every in
    All-flat_map-at P f items k x (here_is items k x within is) whole

-- what holds of the parts of the first items, and of those of one more
pub parts_more : {X Y : Type 0} (P : Y → Type 0) (f : X → List Y) (items all : List X) (k : ℕ) (x : X)
    → items ≡ all → k < length items → x ≡ get_or items k x
    → AllByRecursion P (flat_map f (take k all)) → AllByRecursion P (f x)
    → AllByRecursion P (flat_map f (take (k + 1) all))
parts_more P f items all k x same within is before here =
    let fits : k < length all = subst (λ xs. k < length xs) same within in
    let this : x ≡ get_or all k x = subst (λ xs. x ≡ get_or xs k x) same is in
    let front = flat_map f (take k all) in
    let split : flat_map f (take (k + 1) all) ≡ front ++ f x =
    ap (λ xs. flat_map f xs) (take_more all k x fits ∙ sym (ap (λ y. take k all ++ y ∷ []) this))
    ∙ flat_map-append f (take k all) (x ∷ []) ∙ ap (λ ys. front ++ ys) (append-nil (f x)) in
    subst (λ ys. AllByRecursion P ys) (sym split) (All-append P front (f x) before here)
