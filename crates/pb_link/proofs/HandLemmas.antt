-- What a place has in hand.
use Rattle.std.proofs.Common.{◌≡◌, ℕ, zero, suc, Bool, true, false, List, [], ◌∷◌, ◌++◌, Some, length, slice_get}
use Rattle.std.proofs.Common.{refl, sym, ap, subst, ◌∙◌, arith, length-append}
use Rattle.std.specs.declared.option.Option.{Option}
use Rattle.pb_frame.proofs.Lists.{Some-injective}
use Rattle.pb_frame.proofs.Things.{slice_get-next}
use Rattle.pb_lan.specs.Events.{is_all_fetched}
use Rattle.pb_history.specs.StepLists.{StepsView, given_back, with_step}
use Rattle.pb_lan.specs.declared.step.Item.{Item}
use Rattle.pb_lan.specs.declared.step.Step.{Step}
use Rattle.pb_link.specs.Holdings.{brought_by, brought_at, held, this_of, holding_of, HasRoom, IsHand}
use Rattle.pb_link.specs.declared.holding.Holding.{Holding}
use Rattle.pb_link.specs.declared.holding.Holding.TheVariants.{Nothing, At, This}

-- the item of a step is found at its index when more steps follow
brought-front : (steps more : List Step) (place : ℕ) (item : Item) → brought_at (slice_get steps place) ≡ Some item
    → brought_at (slice_get (steps ++ more) place) ≡ Some item
brought-front [] more place item e = cc
brought-front (step ∷ steps) more zero item e = e
brought-front (step ∷ steps) more (suc place) item e = brought-front steps more place item e

-- if an item has not gone, then not every item that came has gone
one-left : (gone come : List Item) (item : Item) → gone ++ item ∷ [] ≡ come → is_all_fetched come gone ≡ false
one-left gone come item e = grind (arith, ap length e, length-append gone (item ∷ []))

-- the hand is empty if every item that came has gone
pub nothing_in_hand : (steps : List Step) (is_kept : Bool) (gone come : List Item) (hand : Holding)
    → IsHand steps is_kept gone come hand
    → is_all_fetched come gone ≡ true → hand ≡ Nothing
nothing_in_hand steps is_kept gone come Nothing h e = refl
nothing_in_hand steps is_kept gone come (At place) h e = let one = one-left gone come h.1 h.3 in cc
nothing_in_hand steps is_kept gone come (This item) h e = let one = one-left gone come item h.1 in cc

-- the item in hand is the one that came and has not gone
pub whole_by : (steps : List Step) (is_kept : Bool) (gone come : List Item) (hand : Holding) (item : Item)
    → IsHand steps is_kept gone come hand
    → held steps hand ≡ Some item → gone ++ item ∷ [] ≡ come
whole_by steps is_kept gone come Nothing item h e = cc
whole_by steps is_kept gone come (At place) item h e = let same : h.1 ≡ item = Some-injective (sym h.2 ∙ e) in rw
    (← same) h.3
whole_by steps is_kept gone come (This other) item h e = let same : other ≡ item = Some-injective e in rw (← same) h.1

-- `IsHand` is kept by a step that neither brings an item nor lets one go
pub hand-kept : (steps : List Step) (step : Step) (is_kept : Bool) (gone come : List Item) (hand : Holding)
    → IsHand steps is_kept gone come hand
    → IsHand (steps ++ step ∷ []) is_kept gone come hand
hand-kept steps step is_kept gone come Nothing h = h
hand-kept steps step is_kept gone come (At place) h = (h.0, h.1, brought-front steps (step ∷ []) place h.1 h.2, h.3)
hand-kept steps step is_kept gone come (This item) h = h

-- `IsHand` holds after a step that brings an item
pub hand-new : (steps : List Step) (step : Step) (is_kept : Bool) (gone come : List Item) (item : Item)
    → brought_by step ≡ Some item → gone ++ item ∷ [] ≡ come
    → IsHand (steps ++ step ∷ []) is_kept gone come (holding_of (length steps) (given_back is_kept step))
hand-new steps step true gone come item e whole =
    (refl, item, ap brought_at (slice_get-next steps [] step) ∙ e, whole)
hand-new steps step false gone come item e whole =
    subst (λ (o : Option Item). IsHand (steps ++ step ∷ []) false gone come (this_of o)) (sym e) (refl, whole)

-- `HasRoom` holds after a step, which uses up the reservation
pub unreserved : (s new : StepsView) (step : Step) → new ≡ with_step s step → HasRoom new.steps new.is_reserved
unreserved s new step e = λ reserved. let no : new.is_reserved ≡ false = ap (λ (v : StepsView). v.is_reserved) e in cc
