-- If no step changes the state of a port, each frame is handled under the shape at the start.
use Rattle.std.proofs.lemmas.Bool.{or_parts}
use Rattle.std.proofs.Common.{add-zero, ◌≡◌, inl, inr, ℕ, zero, suc, ◌+◌, false, Some, None, Option, List, [], ◌∷◌}
use Rattle.std.proofs.Common.{◌++◌, refl, sym, ◌∙◌, ap, subst, map, slice_get, unwrap_or, arith, append_assoc}
use Rattle.std.proofs.lemmas.Grind.{flat_map-append}
use Rattle.std.specs.List.{AllByRecursion, list_any, flat_map}
use Rattle.pb_frame.proofs.Lists.{All-at}
use Rattle.pb_lan.proofs.Numbers.{lacks}
use Rattle.pb_lan.specs.BridgeLists.{Ruling, Names, Fits, Follows, LawfulAfter, IsLawfulBridge, ruling}
use Rattle.pb_lan.specs.BridgeLists.Ruling.{Refuses, Listens, LearnsOnly, Carries, Closed}
use Rattle.pb_lan.specs.Counts.{IsHandled, HandledAfter}
use Rattle.pb_lan.specs.Laws.{PlannedStatesStay, StillFramesAreTraced, is_setting}
use Rattle.pb_lan.specs.Numbering.{numbered, numbers_from}
use Rattle.pb_lan.specs.Ports.{local_ports, port_at}
use Rattle.pb_lan.specs.Records.{steps_of}
use Rattle.pb_lan.specs.Rules.{Rules, Cause, change_of, change_by}
use Rattle.pb_lan.specs.Rules.Cause.{Hears, Ticks}
use Rattle.pb_lan.specs.Shapes.{changes_of, moved_of, moved_part, state_by, states_after, start_shape}
use Rattle.pb_lan.specs.declared.plan.BridgePlan.{BridgePlan}
use Rattle.pb_lan.specs.declared.plan.Plan.{Plan}
use Rattle.pb_lan.specs.declared.plan.Spanning.TheVariants.{Fixed}
use Rattle.pb_lan.specs.declared.shape.PortState.{PortState}
use Rattle.pb_lan.specs.declared.shape.Shape.{Shape}
use Rattle.pb_lan.specs.declared.step.Item.{Item}
use Rattle.pb_lan.specs.declared.step.Mark.{Mark}
use Rattle.pb_lan.specs.declared.step.Moved.{Moved}
use Rattle.pb_lan.specs.declared.step.Outcome.{Outcome}
use Rattle.pb_lan.specs.declared.step.Step.{Step}
use Rattle.pb_lan.specs.declared.step.Step.TheVariants.{Receive, Tick, Admin}
use Rattle.pb_frame.specs.declared.learnt.Learnt.{Learnt}
use Rattle.pb_frame.proofs.Things.{front-empty}

abbrev states_in : Moved → List (ℕ × PortState)
states_in moved = moved.states

changes-append : (a b : List Step) → changes_of (a ++ b) ≡ changes_of a ++ changes_of b
changes-append a b = ap (flat_map states_in) (flat_map-append moved_of a b)
    ∙ flat_map-append states_in (flat_map moved_of a) (flat_map moved_of b)

-- without changes the states are those at the start
unchanged : (plan : Plan) (b : ℕ) (earlier : List Step) → changes_of earlier ≡ []
    → states_after plan b [] ≡ states_after plan b earlier
unchanged plan b earlier e =
    ap (λ changes. map (λ port. state_by plan.spanning (port_at plan b port) port changes) local_ports) (sym e)

handled-still : (plan : Plan) (shape : Shape) (mark : Mark) (b : ℕ) (earlier : List Step) (step : Step)
    → numbered shape.states b ≡ Some (states_after plan b earlier) → IsHandled plan shape mark b earlier step
handled-still plan shape mark b earlier (Receive port item learnt outcome moved) now = λ of_mark. now
handled-still plan shape mark b earlier _ now = tt

all-still : (plan : Plan) (shape : Shape) (mark : Mark) (b : ℕ)
    → numbered shape.states b ≡ Some (states_after plan b [])
    → (earlier steps : List Step) → changes_of (earlier ++ steps) ≡ [] → HandledAfter plan shape mark b earlier steps
all-still plan shape mark b start earlier [] e = tt
all-still plan shape mark b start earlier (step ∷ steps) e =
    let before = front-empty (changes_of earlier) (changes_of (step ∷ steps))
    (sym (changes-append earlier (step ∷ steps)) ∙ e) in (
      handled-still plan shape mark b earlier step
          (start ∙ ap (λ states. Some states) (unchanged plan b earlier before)),
      all-still plan shape mark b start (earlier ++ step ∷ []) steps
          (ap changes_of (append_assoc earlier (step ∷ []) steps) ∙ e),
    )

-- a property of all lists, and of the empty one, holds of the list of each number
list-of : (P : List Step → Type 0) (lists : List (List Step)) → P [] → AllByRecursion P lists → (n : ℕ)
    → P (steps_of lists n)
list-of P lists none all zero = none
list-of P lists none all (suc n) = at lists n all
  where
    at : (lists : List (List Step)) (n : ℕ) → AllByRecursion P lists → P (unwrap_or (slice_get lists n) [])
    at [] n all = none
    at (steps ∷ lists) zero all = all.0
    at (steps ∷ lists) (suc n) all = at lists n all.1

pub numbered-from : {X Y : Type 0} (f : ℕ → Y) (k : ℕ) (xs : List X) (i : ℕ) (x : X) → slice_get xs i ≡ Some x
    → slice_get (map f (numbers_from k xs)) i ≡ Some (f (k + i))
numbered-from f k [] i x h = cc
numbered-from f k (y ∷ xs) zero x h = ap (λ n. Some (f n)) (sym (add-zero k))
numbered-from f k (y ∷ xs) (suc i) x h =
    let e : k + 1 + i ≡ k + suc i = omega arith in numbered-from f (k + 1) xs i x h ∙ ap (λ n. Some (f n)) e

start-at : (plan : Plan) (b : ℕ) (x : BridgePlan) → numbered plan.bridges b ≡ Some x
    → numbered (start_shape plan).states b ≡ Some (states_after plan b [])
start-at plan zero x h = cc
start-at plan (suc i) x h =
    let e : 1 + i ≡ suc i = omega arith in
    numbered-from (λ n. states_after plan n []) 1 plan.bridges i x h ∙ ap (λ n. Some (states_after plan n [])) e

pub still_frames_are_traced : StillFramesAreTraced
still_frames_are_traced rules plan rec lawful still mark entry planned forest = record {
  planned = planned;
  forest = forest;
  handled = λ b. at b (numbered plan.bridges b) refl;
}
  where
    at : (b : ℕ) (o : Option BridgePlan) → numbered plan.bridges b ≡ o
        → HandledAfter plan (start_shape plan) mark b [] (steps_of rec.bridges b)
    at b None e =
        let none : steps_of rec.bridges b ≡ [] = ap (λ o. unwrap_or o [])
        (lacks plan.bridges rec.bridges b (sym lawful.bridge_count) e) in
        subst (HandledAfter plan (start_shape plan) mark b []) (sym none) tt
    at b (Some x) e =
        all-still plan (start_shape plan) mark b (start-at plan b x e) [] (steps_of rec.bridges b)
        (list-of (λ steps. changes_of steps ≡ []) rec.bridges refl still b)

-- If the plan gives the states.

-- a step reports no change of state if its cause changes none
named-nothing : (rules : Rules) (plan : Plan) (b : ℕ) (earlier : List Step) (cause : Cause) (moved : Moved)
    → (change_of rules plan b earlier cause).states ≡ []
    → Names rules plan b earlier cause moved → moved.states ≡ []
named-nothing rules plan b earlier cause moved nothing names = names.states ∙ nothing

heard-nothing : (rules : Rules) (plan : Plan) (b : ℕ) (earlier : List Step) (port : ℕ) (wire : List ℕ)
    → plan.spanning ≡ Fixed → (change_of rules plan b earlier (Hears port wire)).states ≡ []
heard-nothing rules plan b earlier port wire fixed =
    ap (λ s. (change_by s rules plan b earlier (Hears port wire)).states) fixed

ticked-nothing : (rules : Rules) (plan : Plan) (b : ℕ) (earlier : List Step) → plan.spanning ≡ Fixed
    → (change_of rules plan b earlier Ticks).states ≡ []
ticked-nothing rules plan b earlier fixed = ap (λ s. (change_by s rules plan b earlier Ticks).states) fixed

none-moved : (moved : Option Moved) → moved ≡ None → flat_map states_in (moved_part moved) ≡ []
none-moved moved e = ap (λ o. flat_map states_in (moved_part o)) e

one-moved : (moved : Moved) → moved.states ≡ [] → flat_map states_in (moved ∷ []) ≡ []
one-moved moved e = ap (λ states. states ++ []) e

follows-nothing : (rules : Rules) (plan : Plan) (b : ℕ) (earlier : List Step) (port : ℕ) (item : Item)
    (learnt : Option Learnt) (outcome : Outcome) (moved : Option Moved)
    → plan.spanning ≡ Fixed → (r : Ruling) → Follows rules plan b earlier port item learnt outcome moved r
    → flat_map states_in (moved_part moved) ≡ []
follows-nothing rules plan b earlier port item learnt outcome moved fixed (Refuses reason) h = none-moved moved h.2
follows-nothing rules plan b earlier port item learnt outcome moved fixed Listens (inl h) = none-moved moved h.2
follows-nothing rules plan b earlier port item learnt outcome moved fixed Listens (inr (l, o, heard)) =
    ap (λ o. flat_map states_in (moved_part o)) heard.1
    ∙ one-moved heard.0 (named-nothing rules plan b earlier (Hears port item.wire) heard.0
    (heard-nothing rules plan b earlier port item.wire fixed) heard.2)
follows-nothing rules plan b earlier port item learnt outcome moved fixed (LearnsOnly vid) h = none-moved moved h.2
follows-nothing rules plan b earlier port item learnt outcome moved fixed (Carries vid) (inl h) = none-moved moved h.2
follows-nothing rules plan b earlier port item learnt outcome moved fixed (Carries vid) (inr h) = none-moved moved h.2
follows-nothing rules plan b earlier port item learnt outcome moved fixed Closed h = absurd h

fits-nothing : (rules : Rules) (plan : Plan) (b : ℕ) (earlier : List Step) (step : Step) → plan.spanning ≡ Fixed
    → Fits rules plan b earlier step → is_setting step ≡ false
    → flat_map states_in (moved_of step) ≡ []
fits-nothing rules plan b earlier (Receive port item learnt outcome moved) fixed fits unset =
    follows-nothing rules plan b earlier port item learnt outcome moved fixed (ruling rules plan b earlier port item)
    fits
fits-nothing rules plan b earlier (Tick now moved) fixed fits unset =
    one-moved moved (named-nothing rules plan b earlier Ticks moved (ticked-nothing rules plan b earlier fixed) fits.1)
fits-nothing rules plan b earlier (Admin port up moved) fixed fits unset = cc
fits-nothing rules plan b earlier _ fixed fits unset = refl

lawful-nothing : (rules : Rules) (plan : Plan) (b : ℕ) (earlier steps : List Step) → plan.spanning ≡ Fixed
    → LawfulAfter rules plan b earlier steps
    → list_any is_setting steps ≡ false → changes_of steps ≡ []
lawful-nothing rules plan b earlier [] fixed lawful unset = refl
lawful-nothing rules plan b earlier (step ∷ steps) fixed lawful unset =
    let now = fits-nothing rules plan b earlier step fixed lawful.0
    (or_parts (is_setting step) (list_any is_setting steps) unset).0 in
    let later = lawful-nothing rules plan b (earlier ++ step ∷ []) steps fixed lawful.1
    (or_parts (is_setting step) (list_any is_setting steps) unset).1 in
    flat_map-append states_in (moved_of step) (flat_map moved_of steps) ∙ ap (λ front. front ++ changes_of steps) now
    ∙ later

pub planned_states_stay : PlannedStatesStay
planned_states_stay rules plan rec fixed lawful unset = each rec.bridges (λ i steps at.
    lawful-nothing rules plan (suc i) [] steps fixed
    (subst (IsLawfulBridge rules plan (suc i)) (ap (λ o. unwrap_or o []) at) (lawful.bridges (suc i)))
    (All-at (λ steps. list_any is_setting steps ≡ false) rec.bridges i steps at unset))
  where
    each : (lists : List (List Step))
        → ((i : ℕ) (steps : List Step) → slice_get lists i ≡ Some steps → changes_of steps ≡ [])
        → AllByRecursion (λ steps. changes_of steps ≡ []) lists
    each [] h = tt
    each (steps ∷ lists) h = (h 0 steps refl, each lists (λ i later at. h (suc i) later at))
