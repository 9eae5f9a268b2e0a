-- A lane's steps, with one step more.
use Rattle.std.proofs.Common.{◌≡◌, ℕ, suc, ◌+◌, ◌≤◌, Bool, true, false, not, if◌then◌else◌, ◌==◌, List, [], ◌∷◌, ◌++◌}
use Rattle.std.proofs.Common.{Some, None, length, map, slice_get, refl, sym, ap, subst, ◌∙◌, arith, append-nil}
use Rattle.std.proofs.Common.{length-append}
use Rattle.std.proofs.lemmas.List.{map-append, length-map}
use Rattle.std.specs.List.{list_any, filter}
use Rattle.pb_frame.proofs.Lists.{All-append, filter-append}
use Rattle.pb_frame.proofs.Things.{flat_map-none, flat_map-more, slice_get-next}
use Rattle.pb_lan.specs.LaneLists.{Taken, all_taken, taken, taken_by, carried, put, put_by, IsLaneStep, AreCounted}
use Rattle.pb_history.specs.StepLists.{StepsView, given_back}
use Rattle.pb_lan.specs.declared.step.Item.{Item}
use Rattle.pb_lan.specs.declared.step.Step.{Step}
use Rattle.pb_lan.specs.declared.step.Step.TheVariants.{Take, Put}
use Rattle.pb_link.specs.Holdings.{held, holding_of, IsHand}
use Rattle.pb_link.specs.Lanes.{is_hand_empty, in_hand, IsLaneKept}
use Rattle.pb_link.specs.declared.holding.Holding.{Holding}
use Rattle.pb_link.specs.declared.holding.Holding.TheVariants.{Nothing, At, This}
use Rattle.pb_link.proofs.HandLemmas.{nothing_in_hand, hand-new}
use Rattle.pb_link.proofs.HandLemmas.{whole_by}

-- items that are counted stay counted with one more item of the next number
counted-more : (losses : List ℕ) (n : ℕ) (ts : List Taken) (t : Taken) → AreCounted losses n ts
    → t.number ≡ n + length ts → t.lost ≡ list_any (λ k. k == n + length ts) losses
    → AreCounted losses n (ts ++ t ∷ [])
counted-more losses n [] t counted number lost = let e : n + 0 ≡ n = omega arith in (rw e at number, rw e at lost, tt)
counted-more losses n (x ∷ ts) t counted number lost =
    let e : n + suc (length ts) ≡ (n + 1) + length ts = omega arith in
    (counted.0, counted.1, counted-more losses (n + 1) ts t counted.2 (rw e at number) (rw e at lost))

-- a lane's items are at most its steps, for the bound of the counter
pub length-taken : (steps : List Step) → length (taken steps) ≤ length steps
length-taken [] = omega arith
length-taken (Take number item lost ∷ steps) = omega (arith, length-taken steps)
length-taken (_ ∷ steps) = omega (arith, length-taken steps)

-- there is nothing at the index after the last
none-behind : {X : Type 0} (xs : List X) → slice_get xs (length xs) ≡ None
none-behind [] = refl
none-behind (x ∷ xs) = none-behind xs

-- no item is in hand if every carried item was put
pub none_in_hand : (steps : List Step) → put steps ≡ carried steps → in_hand steps ≡ None
none_in_hand steps held = ap (λ (items : List Item). slice_get (carried steps) (length items)) held
    ∙ none-behind (carried steps)

pub one_in_hand : (steps : List Step) (item : Item) → put steps ++ item ∷ [] ≡ carried steps
    → in_hand steps ≡ Some item
one_in_hand steps item whole = ap (λ (items : List Item). slice_get items (length (put steps))) (sym whole)
    ∙ slice_get-next (put steps) [] item

-- the hand holds the item that the lists of carried and put items give
pub hand-item : (steps : List Step) (is_kept : Bool) (hand : Holding)
    → IsHand steps is_kept (put steps) (carried steps) hand → held steps hand ≡ in_hand steps
hand-item steps is_kept Nothing h = sym (none_in_hand steps h)
hand-item steps is_kept (At place) h = h.2 ∙ sym (one_in_hand steps h.1 h.3)
hand-item steps is_kept (This item) h = sym (one_in_hand steps item h.1)

abbrev items_of : List Taken → List Item
items_of ts = map (λ (t : Taken). t.item) ts

abbrev kept_of : List Taken → List Taken
kept_of ts = filter (λ (t : Taken). not t.lost) ts

-- what a Take step adds to the lists of taken and carried items
carried-take : (steps : List Step) (number : ℕ) (item : Item) (lost : Bool)
    → carried (steps ++ Take number item lost ∷ []) ≡ carried steps
    ++ items_of (kept_of (record { number = number; item = item; lost = lost } ∷ []))
carried-take steps number item lost =
    let one : List Taken = record { number = number; item = item; lost = lost } ∷ [] in
    ap (λ (ts : List Taken). items_of (kept_of ts)) (flat_map-more taken_by steps (Take number item lost))
    ∙ ap items_of (filter-append (λ (t : Taken). not t.lost) (all_taken steps) one)
    ∙ map-append (λ (t : Taken). t.item) (kept_of (all_taken steps)) (kept_of one)

-- the items of a lane are counted after one more Take step
counted-take : (losses : List ℕ) (steps : List Step) (count : ℕ) (item : Item) (lost : Bool)
    → AreCounted losses 0 (all_taken steps) → count ≡ length (taken steps)
    → lost ≡ list_any (λ k. k == count) losses → AreCounted losses 0 (all_taken (steps ++ Take count item lost ∷ []))
counted-take losses steps count item lost counted e is_lost =
    let many : count ≡ 0 + length (all_taken steps) = e ∙ length-map (all_taken steps) (λ (t : Taken). t.item)
    ∙ omega arith in
    subst (λ (ts : List Taken). AreCounted losses 0 ts) (sym (flat_map-more taken_by steps (Take count item lost)))
    (counted-more losses 0 (all_taken steps) (record { number = count; item = item; lost = lost }) counted many
    (is_lost ∙ ap (λ (n : ℕ). list_any (λ k. k == n) losses) many))

length-take : (steps : List Step) (count : ℕ) (item : Item) (lost : Bool) → count ≡ length (taken steps)
    → count + 1 ≡ length (taken (steps ++ Take count item lost ∷ []))
length-take steps count item lost e =
    let step : Step = Take count item lost in
    let more : taken (steps ++ step ∷ []) ≡ taken steps ++ item ∷ [] = ap items_of (flat_map-more taken_by steps step)
    ∙ map-append (λ (t : Taken). t.item) (all_taken steps) (taken_by step) in
    omega (arith, e, ap length more, length-append (taken steps) (item ∷ []))

-- the lane's invariant after a Take step
after_take : (losses : List ℕ) (steps : List Step) (is_kept : Bool) (count : ℕ) (item : Item) (lost : Bool)
    → IsLaneKept losses steps is_kept Nothing count
    → lost ≡ list_any (λ k. k == count) losses
    → IsLaneKept losses (steps ++ Take count item lost ∷ []) is_kept
    (if lost then Nothing else holding_of (length steps) (given_back is_kept (Take count item lost))) (count + 1)
after_take losses steps is_kept count item true kept e =
    let step : Step = Take count item true in
    let empty : put (steps ++ step ∷ []) ≡ carried (steps ++ step ∷ []) = flat_map-none put_by step refl steps
    ∙ kept.held ∙ sym (carried-take steps count item true ∙ append-nil (carried steps)) in
    record {
      lawful = record {
        kinds = All-append IsLaneStep steps (step ∷ []) kept.lawful.kinds (tt, tt);
        counted = counted-take losses steps count item true kept.lawful.counted kept.counted e;
        held = (None, append-nil (put (steps ++ step ∷ [])) ∙ empty);
      };
      held = empty;
      counted = length-take steps count item true kept.counted;
    }
after_take losses steps is_kept count item false kept e =
    let step : Step = Take count item false in
    let full : put (steps ++ step ∷ []) ++ item ∷ [] ≡ carried (steps ++ step ∷ []) =
    ap (λ (items : List Item). items ++ item ∷ []) (flat_map-none put_by step refl steps ∙ kept.held)
    ∙ sym (carried-take steps count item false) in
    record {
      lawful = record {
        kinds = All-append IsLaneStep steps (step ∷ []) kept.lawful.kinds (tt, tt);
        counted = counted-take losses steps count item false kept.lawful.counted kept.counted e;
        held = (Some item, full);
      };
      held = hand-new steps step is_kept (put (steps ++ step ∷ [])) (carried (steps ++ step ∷ [])) item refl full;
      counted = length-take steps count item false kept.counted;
    }

-- the lane's invariant after the Take step of the next item, if the hand was empty
pub after_coming : (losses : List ℕ) (s : StepsView) (hand : Holding) (count : ℕ) (item : Item) (lost : Bool)
    → IsLaneKept losses s.steps s.is_kept hand count
    → is_hand_empty s.steps ≡ true → lost ≡ list_any (λ k. k == count) losses
    → IsLaneKept losses (s.steps ++ Take count item lost ∷ []) s.is_kept
    (if lost then Nothing else holding_of (length s.steps) (given_back s.is_kept (Take count item lost))) (count + 1)
after_coming losses s hand count item lost kept empty e =
    let none : hand ≡ Nothing = nothing_in_hand s.steps s.is_kept (put s.steps) (carried s.steps) hand kept.held empty
    in
    after_take losses s.steps s.is_kept count item lost
    (subst (λ (h : Holding). IsLaneKept losses s.steps s.is_kept h count) none kept) e

-- the item in hand is the next to be put
next_put : (steps : List Step) (is_kept : Bool) (hand : Holding) (item : Item)
    → IsHand steps is_kept (put steps) (carried steps) hand → in_hand steps ≡ Some item
    → put steps ++ item ∷ [] ≡ carried steps
next_put steps is_kept hand item h e = whole_by steps is_kept (put steps) (carried steps) hand item h
    (hand-item steps is_kept hand h ∙ e)

-- the lane's invariant after a Put step
pub after_put : (losses : List ℕ) (steps : List Step) (is_kept : Bool) (hand : Holding) (count : ℕ) (item : Item)
    → IsLaneKept losses steps is_kept hand count
    → in_hand steps ≡ Some item → IsLaneKept losses (steps ++ Put item ∷ []) is_kept Nothing count
after_put losses steps is_kept hand count item kept e =
    let all_so : all_taken (steps ++ Put item ∷ []) ≡ all_taken steps = flat_map-none taken_by (Put item) refl steps
    in
    let empty : put (steps ++ Put item ∷ []) ≡ carried (steps ++ Put item ∷ []) =
    flat_map-more put_by steps (Put item) ∙ next_put steps is_kept hand item kept.held e
    ∙ ap (λ (ts : List Taken). items_of (kept_of ts)) (sym all_so) in
    record {
      lawful = record {
        kinds = All-append IsLaneStep steps (Put item ∷ []) kept.lawful.kinds (tt, tt);
        counted = subst (λ (ts : List Taken). AreCounted losses 0 ts) (sym all_so) kept.lawful.counted;
        held = (None, append-nil (put (steps ++ Put item ∷ [])) ∙ empty);
      };
      held = empty;
      counted = kept.counted ∙ ap (λ (ts : List Taken). length (items_of ts)) (sym all_so);
    }
