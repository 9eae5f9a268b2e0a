-- Lists by number, with one of them changed.
use Rattle.std.proofs.Common.{◌≡◌, ℕ, zero, suc, ◌<◌, inl, inr, List, [], ◌∷◌, ◌++◌, Some, map, length}
use Rattle.std.proofs.Common.{unwrap_or, slice_get, refl, sym, ap, ap₂, ◌∙◌, append_assoc}
use Rattle.std.proofs.Math.ListN.{set}
use Rattle.std.proofs.Math.Seq.{map-set_same}
use Rattle.std.proofs.lemmas.Bool.{cases_eq}
use Rattle.std.proofs.lemmas.List.{map-set}
use Rattle.std.proofs.lemmas.Option.{slice_get_within, get_or_from_slice_get}
use Rattle.pb_frame.proofs.Things.{part_at, put_there, put_elsewhere}
use Rattle.pb_lan.specs.Events.{one_more}
use Rattle.pb_lan.specs.Records.{steps_of}
use Rattle.pb_lan.specs.declared.step.Item.{Item}
use Rattle.pb_lan.specs.declared.step.Step.{Step}
use Rattle.pb_net.specs.Slots.{items_at}

-- the steps of the place that took a step, and those of another place
pub steps_of-set_same : (lists : List (List Step)) (r : ℕ) (steps : List Step) → r < length lists
    → steps_of (set lists r steps) (suc r) ≡ steps
steps_of-set_same lists r steps h = ap (λ o. unwrap_or o []) (put_there lists r steps h)

pub steps_of-set_other : (lists : List (List Step)) (r n : ℕ) (steps : List Step) → (n ≡ suc r → ⊥)
    → steps_of (set lists r steps) n ≡ steps_of lists n
steps_of-set_other lists r zero steps ne = refl
steps_of-set_other lists r (suc s) steps ne = ap (λ o. unwrap_or o [])
    (put_elsewhere lists r s steps (λ e. ne (ap (λ n. suc n) e)))

-- what is read of a place's steps stays if the step adds nothing to it
pub one_more-kept : {X : Type 0} (f : List Step → X) (step : Step) → ((ms : List Step) → f (ms ++ step ∷ []) ≡ f ms)
    → (lists : List (List Step)) (r m : ℕ) → r < length lists
    → f (steps_of (set lists r (steps_of lists (suc r) ++ step ∷ [])) m) ≡ f (steps_of lists m)
one_more-kept f step each lists r m within =
    let grown = steps_of lists (suc r) ++ step ∷ [] in
    elim (cases_eq m (suc r)) [
      | inl e ↦ ap (λ k. f (steps_of (set lists r grown) k)) e ∙ ap f (steps_of-set_same lists r grown within)
          ∙ each (steps_of lists (suc r)) ∙ ap (λ k. f (steps_of lists k)) (sym e)
      | inr ne ↦ ap f (steps_of-set_other lists r m grown ne)
    ]

-- the items of the queue that changed, and those of another queue
pub items_at-set_same : (lists : List (List Item)) (s : ℕ) (items : List Item) → s < length lists
    → items_at (set lists s items) s ≡ items
items_at-set_same lists s items h = ap (λ o. unwrap_or o []) (put_there lists s items h)

pub items_at-set_other : (lists : List (List Item)) (s t : ℕ) (items : List Item) → (t ≡ s → ⊥)
    → items_at (set lists s items) t ≡ items_at lists t
items_at-set_other lists s t items ne = ap (λ o. unwrap_or o []) (put_elsewhere lists s t items ne)

pub steps_of-map : {X : Type 0} (f : X → List Step) (xs : List X) (r : ℕ) (x : X) → slice_get xs r ≡ Some x
    → steps_of (map f xs) (suc r) ≡ f x
steps_of-map f xs r x e = ap (λ o. unwrap_or o []) (part_at f xs r x e)

pub items_at-here : (lists : List (List Item)) (s : ℕ) (items : List Item) → slice_get lists s ≡ Some items
    → items_at lists s ≡ items
items_at-here lists s items e = ap (λ o. unwrap_or o []) e

-- the lists of steps grow by the step of one place
pub one_more-map : {X : Type 0} (f : X → List Step) (xs : List X) (r : ℕ) (old new : X) (step : Step)
    → slice_get xs r ≡ Some old
    → f new ≡ f old ++ step ∷ [] → map f (set xs r new) ≡ one_more (map f xs) (suc r) step
one_more-map f xs r old new step here grown =
    map-set f xs r new ∙ ap (λ z. set (map f xs) r z)
    (grown ∙ ap (λ z. z ++ step ∷ []) (sym (steps_of-map f xs r old here)))

-- a change of one item that keeps its image keeps the images of all
pub map-set_kept : {X Y : Type 0} (f : X → Y) (xs : List X) (r : ℕ) (old new : X) → slice_get xs r ≡ Some old
    → f new ≡ f old → map f (set xs r new) ≡ map f xs
map-set_kept f xs r old new here same = map-set_same f xs r new old
    (same ∙ ap f (sym (get_or_from_slice_get xs r old old here)))

-- the front of a queue moved on to what was received from it
pub moved_on : {got' whole : List Item} (got : List Item) (lists : List (List Item)) (s t : ℕ) (item : Item)
    (rest : List Item)
    → t ≡ s → slice_get lists s ≡ Some (item ∷ rest) → got' ≡ got ++ item ∷ [] → got ++ items_at lists t ≡ whole
    → got' ++ items_at (set lists s rest) t ≡ whole
moved_on got lists s t item rest here box grown e =
    ap₂ (λ (x y : List Item). x ++ y) grown (ap (items_at (set lists s rest)) here
    ∙ items_at-set_same lists s rest (slice_get_within lists s (item ∷ rest) box))
    ∙ append_assoc got (item ∷ []) rest
    ∙ ap (λ z. got ++ z) (sym (ap (items_at lists) here ∙ items_at-here lists s (item ∷ rest) box)) ∙ e

-- what was sent to a queue is at its back
pub moved_in : {sent sent' : List Item} (got : List Item) (lists : List (List Item)) (s t : ℕ) (item : Item)
    (items : List Item)
    → t ≡ s → slice_get lists s ≡ Some items → sent' ≡ sent ++ item ∷ [] → got ++ items_at lists t ≡ sent
    → got ++ items_at (set lists s (items ++ item ∷ [])) t ≡ sent'
moved_in got lists s t item items here box grown e =
    ap (λ z. got ++ z) (ap (items_at (set lists s (items ++ item ∷ []))) here
    ∙ items_at-set_same lists s (items ++ item ∷ []) (slice_get_within lists s items box)
    ∙ ap (λ z. z ++ item ∷ []) (sym (ap (items_at lists) here ∙ items_at-here lists s items box)))
    ∙ sym (append_assoc got (items_at lists t) (item ∷ [])) ∙ ap (λ z. z ++ item ∷ []) e ∙ sym grown
