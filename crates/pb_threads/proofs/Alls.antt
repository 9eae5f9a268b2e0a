-- Lemmas on `All` and on beginnings of lists, for the loops over workers.
use Rattle.std.proofs.Common.{◌≡◌, ℕ, ◌+◌, List, [], ◌∷◌, ◌++◌, All, map, Some, refl, sym, ap, ◌∙◌, append_assoc}
use Rattle.std.proofs.Common.{slice_get, take, suc, option_map}
use Rattle.std.proofs.Math.Seq.{take-suc}
use Rattle.std.proofs.lemmas.List.{map-append, length-append}
use Rattle.std.proofs.lemmas.List.Elements.{All-same, All-push}
use Rattle.std.proofs.lemmas.Option.{get_or_from_slice_get, slice_get_within, slice_get-map}
use Rattle.pb_frame.proofs.Things.{slice_get-next}
use Rattle.pb_threads.specs.Slots.{HasDone}

pub all_more : {X : Type 0} → (P : X → Type 0) (y : X) (xs ys : List X) → ys ≡ xs ++ y ∷ [] → All P xs → P y → All P ys
all_more P y xs ys e h p = All-same P ys (xs ++ y ∷ []) e (All-push P xs y h p)

-- one more item is done: the images of the done items and of the remaining ones are those of all
pub moved_on : {X Y : Type 0} (f : X → Y) (xs ys : List X) (x : X) (rest left all : List Y) (y : Y)
    → map f xs ++ rest ≡ all → ys ≡ xs ++ x ∷ [] → rest ≡ y ∷ left → f x ≡ y → map f ys ++ left ≡ all
moved_on f xs ys x rest left all y before e er is = rw (e, ← before, er, ← is, map-append, append_assoc) refl

-- one more item is there: the images of the items are a longer beginning of a list
pub begun_on : {X Y : Type 0} (f : X → Y) (xs ys : List X) (x : X) (all : List Y) (n m k : ℕ) → map f xs ≡ take n all
    → ys ≡ xs ++ x ∷ [] → m ≡ suc n → k ≡ n → slice_get all k ≡ Some (f x) → map f ys ≡ take m all
begun_on f xs ys x all n m k before e more is at =
    let here = ap (slice_get all) (sym is) ∙ at in
    rw (
      e,
      more,
      take-suc all n (f x) (slice_get_within all n (f x) here),
      get_or_from_slice_get all n (f x) (f x) here,
      map-append,
      before,
    ) refl

-- the next item is at the index that is the number of items that are done
pub done_at : {X Y : Type 0} (f : X → Y) (all : List X) (n : ℕ) (left rest : List X) (y : X) → HasDone all n left
    → left ≡ y ∷ rest → slice_get (map f all) n ≡ Some (f y)
done_at f all n left rest y done e =
    slice_get-map f all n
    ∙ ap (option_map f)
    (ap (λ xs. slice_get xs n) (done.parts ∙ ap (λ xs. done.before ++ xs) e)
    ∙ ap (slice_get (done.before ++ y ∷ rest)) done.count
    ∙ slice_get-next done.before rest y)

-- one more item is done
pub done_on : {X : Type 0} (all : List X) (n : ℕ) (left rest : List X) (y : X) → HasDone all n left → left ≡ y ∷ rest
    → HasDone all (n + 1) rest
done_on all n left rest y done e = record {
  before = done.before ++ y ∷ [];
  parts = rw (done.parts, e, append_assoc) refl;
  count = rw (length-append, done.count) refl;
}
