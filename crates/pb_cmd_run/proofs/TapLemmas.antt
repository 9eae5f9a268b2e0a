-- The files of taps after those of ports (used by the functions of `taps.rt` and `outside.rt`).
use Rattle.std.proofs.Common.{◌≡◌, ℕ, ◌≤◌, List, [], ◌∷◌, ◌++◌, map, take, length, sym, ap, ◌∙◌, append-nil, arith}
use Rattle.std.proofs.Math.Seq.{take-append_seam}
use Rattle.std.proofs.lemmas.List.{append_assoc, map-append, take-map, length-map, length-append}

-- a list begins with itself, and also with one more item
pub grown_none : {X : Type 0} (xs : List X) → (more : List X) × (xs ≡ xs ++ more)
grown_none xs = ([], sym (append-nil xs))

pub grown_more : {X : Type 0} (xs ys zs : List X) (x : X) → ((more : List X) × (ys ≡ xs ++ more)) → zs ≡ ys ++ x ∷ []
    → (more : List X) × (zs ≡ xs ++ more)
grown_more xs ys zs x (more, e) f = (more ++ x ∷ [], f ∙ ap (λ us. us ++ x ∷ []) e ∙ append_assoc xs more (x ∷ []))

-- a list that begins with others is as long at least
pub front_within : {X : Type 0} (ys more all : List X) (k n : ℕ) → all ≡ ys ++ more → k ≡ length ys → n ≡ length all
    → k ≤ n
front_within ys more all k n e count full = omega (arith, ap length e, length-append ys more, count, full)

-- the images of the first things are those of the first items
pub front_same : {X Y Z : Type 0} (f : X → Z) (g : Y → Z) (xs front : List X) (ys more all : List Y) (n : ℕ)
    → map f xs ≡ map g all → all ≡ ys ++ more → front ≡ take n xs → n ≡ length ys → map f front ≡ map g ys
front_same f g xs front ys more all n same e cut count =
    ap (map f) cut ∙ sym (take-map f n xs) ∙ ap (take n) (same ∙ ap (map g) e ∙ map-append g ys more)
    ∙ ap (λ m. take m (map g ys ++ map g more)) (count ∙ sym (length-map ys g))
    ∙ take-append_seam (map g ys) (map g more)
