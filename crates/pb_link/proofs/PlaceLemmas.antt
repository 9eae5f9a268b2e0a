-- A customer port's steps, with one step more.
use Rattle.std.proofs.Common.{◌≡◌, ℕ, suc, ◌+◌, ◌≤◌, Bool, true, List, [], ◌∷◌, ◌++◌, Some, length, refl, sym, ap}
use Rattle.std.proofs.Common.{subst}
use Rattle.std.proofs.Common.{◌∙◌, arith, length-append}
use Rattle.pb_frame.proofs.Lists.{All-append}
use Rattle.pb_frame.proofs.Things.{flat_map-none, flat_map-more}
use Rattle.pb_lan.specs.Events.{is_hand_empty}
use Rattle.pb_lan.specs.PortLists.{polled, fed, polled_by, fed_by, IsPortStep, AreMarked}
use Rattle.pb_history.specs.StepLists.{StepsView, given_back}
use Rattle.pb_lan.specs.declared.step.Item.{Item}
use Rattle.pb_lan.specs.declared.step.Mark.{Mark}
use Rattle.pb_lan.specs.declared.step.Step.{Step}
use Rattle.pb_lan.specs.declared.step.Step.TheVariants.{Poll, Deliver}
use Rattle.pb_link.specs.Hands.{IsPortKept}
use Rattle.pb_link.specs.Holdings.{holding_of}
use Rattle.pb_link.specs.declared.holding.Holding.{Holding}
use Rattle.pb_link.specs.declared.holding.Holding.TheVariants.{Nothing}
use Rattle.pb_link.proofs.HandLemmas.{nothing_in_hand, hand-kept, hand-new}

-- items that are marked stay marked with one more item of the next mark
marked-more : (port n : ℕ) (items : List Item) (item : Item) → AreMarked port n items
    → item.mark ≡ Some (record { port = port; number = n + length items }) → item.hops ≡ 0
    → AreMarked port n (items ++ item ∷ [])
marked-more port n [] item marked mark hops = let e : n + 0 ≡ n = omega arith in (rw e at mark, hops, tt)
marked-more port n (i ∷ items) item marked mark hops =
    let e : n + suc (length items) ≡ (n + 1) + length items = omega arith in
    (marked.0, marked.1, marked-more port (n + 1) items item marked.2 (rw e at mark) hops)

-- a port's frames are at most its steps, for the bound of the counter
pub length-polled : (steps : List Step) → length (polled steps) ≤ length steps
length-polled [] = omega arith
length-polled (Poll item ∷ steps) = omega (arith, length-polled steps)
length-polled (_ ∷ steps) = omega (arith, length-polled steps)

-- the port's invariant after a Deliver step
pub after_deliver : (number : ℕ) (steps : List Step) (is_kept : Bool) (hand : Holding) (polls : ℕ) (item : Item)
    (gone : Bool)
    → IsPortKept number steps is_kept hand polls
    → IsPortKept number (steps ++ Deliver item gone ∷ []) is_kept hand polls
after_deliver number steps is_kept hand polls item gone kept =
    let step : Step = Deliver item gone in
    let polls_so : polled (steps ++ step ∷ []) ≡ polled steps = flat_map-none polled_by step refl steps in
    let feeds_so : fed (steps ++ step ∷ []) ≡ fed steps = flat_map-none fed_by step refl steps in
    record {
      lawful = record {
        kinds = All-append IsPortStep steps (step ∷ []) kept.lawful.kinds (tt, tt);
        marked = rw polls_so kept.lawful.marked;
        held = (kept.lawful.held.0, rw (polls_so, feeds_so) kept.lawful.held.1);
      };
      held = rw (polls_so, feeds_so) (hand-kept steps step is_kept (fed steps) (polled steps) hand kept.held);
      count = rw polls_so kept.count;
    }

-- the port's invariant after a Poll step
after_poll : (number : ℕ) (steps : List Step) (is_kept : Bool) (polls : ℕ) (item : Item)
    → IsPortKept number steps is_kept Nothing polls
    → item.mark ≡ Some (record { port = number; number = length (polled steps) }) → item.hops ≡ 0
    → IsPortKept number (steps ++ Poll item ∷ []) is_kept (holding_of (length steps) (given_back is_kept (Poll item)))
    (polls + 1)
after_poll number steps is_kept polls item kept mark hops =
    let step : Step = Poll item in
    let polls_so : polled (steps ++ step ∷ []) ≡ polled steps ++ item ∷ [] = flat_map-more polled_by steps step in
    let whole : fed (steps ++ step ∷ []) ++ item ∷ [] ≡ polled (steps ++ step ∷ []) =
    ap (λ z. z ++ item ∷ []) (flat_map-none fed_by step refl steps ∙ kept.held) ∙ sym polls_so in
    record {
      lawful = record {
        kinds = All-append IsPortStep steps (step ∷ []) kept.lawful.kinds (tt, tt);
        marked = rw polls_so (marked-more number 0 (polled steps) item kept.lawful.marked
            (let e : 0 + length (polled steps) ≡ length (polled steps) = omega arith in rw e mark) hops);
        held = (Some item, whole);
      };
      held = hand-new steps step is_kept (fed (steps ++ step ∷ [])) (polled (steps ++ step ∷ [])) item refl whole;
      count = ap (λ z. z + 1) kept.count ∙ sym (ap length polls_so ∙ length-append (polled steps) (item ∷ []));
    }

abbrev mark_of : ℕ → ℕ → Mark
mark_of port number = record { port = port; number = number }

-- the item of a port's frame of this number
abbrev pub frame_of : ℕ → ℕ → List ℕ → Item
frame_of port number frame = record { mark = Some (record { port = port; number = number }); hops = 0; wire = frame }

-- the port's invariant after the Poll step of the next frame, if the hand was empty
pub after_arrival : (number : ℕ) (s : StepsView) (hand : Holding) (polls next : ℕ) (frame : List ℕ)
    → IsPortKept number s.steps s.is_kept hand polls
    → is_hand_empty s.steps ≡ true → next ≡ polls
    → IsPortKept number (s.steps ++ Poll (frame_of number next frame) ∷ []) s.is_kept
    (holding_of (length s.steps) (given_back s.is_kept (Poll (frame_of number next frame)))) (polls + 1)
after_arrival number s hand polls next frame kept empty e =
    let none : hand ≡ Nothing = nothing_in_hand s.steps s.is_kept (fed s.steps) (polled s.steps) hand kept.held empty
    in
    let before = subst (λ (h : Holding). IsPortKept number s.steps s.is_kept h polls) none kept in
    after_poll number s.steps s.is_kept polls (frame_of number next frame) before
    (ap (λ (n : ℕ). Some (mark_of number n)) (e ∙ kept.count)) refl
