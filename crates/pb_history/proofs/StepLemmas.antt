-- The counts after one more step, for the functions that record steps.
use Rattle.std.proofs.Common.{◌≡◌, ℕ, suc, ◌+◌, ◌<◌, ◌≤◌, ◌==◌, ◌&&◌, ◌||◌, ◌*◌, not, Bool, true, false, cond, Some, None}
use Rattle.std.proofs.Common.{unwrap_or, List, [], ◌∷◌, ◌++◌, flat_map, get_or, slice_set, take, length}
use Rattle.std.proofs.Common.{if◌then◌else◌, refl, sym, ap, subst, ◌∙◌, arith, ⊎_elim, append-nil, add-zero, eq-eqb}
use Rattle.std.proofs.lemmas.Bool.{cases_eq, eqb-true}
use Rattle.std.proofs.lemmas.List.{get_or-set_same, get_or-set_other, take_more}
use Rattle.std.proofs.lemmas.List.Folds.{list_any-append}
use Rattle.std.proofs.lemmas.List.Sums.{sum_by_push, sum_by-cons}
use Rattle.std.specs.List.{count_by, list_any}
use Rattle.std.specs.declared.option.Option.{Option}
use Rattle.std.proofs.Math.Bool.{and-true, or-false}
use Rattle.pb_lan.proofs.PortBits.{unequal}
use Rattle.pb_lan.proofs.StateLemmas.{changed-push, changed-next}
use Rattle.pb_lan.specs.Queues.{is_refused}
use Rattle.pb_lan.specs.Shapes.{changed, changes_of, moved_of}
use Rattle.pb_lan.specs.declared.shape.PortState.{PortState}
use Rattle.pb_lan.specs.declared.step.Moved.{Moved}
use Rattle.pb_lan.specs.declared.step.NoRoom.{NoRoom}
use Rattle.pb_frame.specs.declared.reason.Reason.{Reason}
use Rattle.pb_frame.specs.declared.reason.Reason.TheVariants.{NotForwarding, NotMember, Untagged, Reserved, Malformed, Worn, Memory as WantOfMemory, STagged, Long}
use Rattle.pb_lan.specs.declared.step.Outcome.TheVariants.{Relayed, Filtered, Heard}
use Rattle.pb_lan.specs.declared.step.Step.{Step}
use Rattle.pb_lan.specs.declared.step.Step.TheVariants.{Poll, Feed, Deliver, Receive, Transmit, Tick, Admin, Take, Put}
use Rattle.pb_history.specs.Drops.{number_of, is_dropped, goes_nowhere, place_of, is_just, AreDrops}
use Rattle.pb_history.specs.Late.{is_receipt, changes_state, since_first, changes_late}
use Rattle.pb_history.specs.Newest.{HaveSet, AreNewest}
use Rattle.pb_history.specs.Passages.{is_filtered, filtered_by, AreFiltered}

pub count_more : {X : Type 0} (p : X → Bool) (xs : List X) (x : X)
    → count_by p (xs ++ x ∷ []) ≡ count_by p xs + cond (p x) 1 0
count_more p xs x = sum_by_push (λ y. cond (p y) 1 0) xs x

-- tests that agree count the same
count_alike : {X : Type 0} (f g : X → Bool) → ((x : X) → f x ≡ g x) → (xs : List X) → count_by f xs ≡ count_by g xs
count_alike f g same [] = refl
count_alike f g same (x ∷ xs) =
    sum_by-cons (λ y. cond (f y) 1 0) x xs ∙ ap (λ b. cond b 1 0 + count_by f xs) (same x)
    ∙ ap (λ n. cond (g x) 1 0 + n) (count_alike f g same xs)
    ∙ sym (sum_by-cons (λ y. cond (g y) 1 0) x xs)

-- if no port was refused, each chosen port got a copy, for `copies`
pub none_refused : (chosen : List ℕ) (refused : List (ℕ × NoRoom)) (ports : List ℕ) → (length refused == 0) ≡ true
    → count_by (λ port. list_any (λ p. p == port) chosen && not (is_refused refused port)) ports ≡ count_by
    (λ port. list_any (λ p. p == port) chosen) ports
none_refused chosen [] ports e =
    count_alike (λ port. list_any (λ p. p == port) chosen && true) (λ port. list_any (λ p. p == port) chosen)
    (λ port. and-true (list_any (λ p. p == port) chosen)) ports
none_refused chosen (r ∷ rs) ports e = let same : suc (length rs) ≡ 0 = eqb-true (suc (length rs)) 0 e in absurd
    (omega (arith, same))

-- the option is this port: a step filters at a port exactly if `filtered_by` is that port
abbrev tells : ℕ → Option ℕ → Bool
tells port None = false
tells port (Some at) = at == port

filtered_at : (port : ℕ) (step : Step) → is_filtered port step ≡ tells port (filtered_by step)
filtered_at port (Receive at item learnt (Filtered reason) moved) = refl
filtered_at port (Receive at item learnt (Relayed chosen refused) moved) = refl
filtered_at port (Receive at item learnt Heard moved) = refl
filtered_at port (Poll item) = refl
filtered_at port (Feed item) = refl
filtered_at port (Deliver item gone) = refl
filtered_at port (Transmit at item) = refl
filtered_at port (Tick now moved) = refl
filtered_at port (Admin at up moved) = refl
filtered_at port (Take number item lost) = refl
filtered_at port (Put item) = refl

filtered_count : (port : ℕ) (steps : List Step) (step : Step) (o : Option ℕ) → filtered_by step ≡ o
    → count_by (is_filtered port) (steps ++ step ∷ []) ≡ count_by (is_filtered port) steps + cond (tells port o) 1 0
filtered_count port steps step o e =
    count_more (is_filtered port) steps step ∙ ap (λ b. count_by (is_filtered port) steps + cond b 1 0)
    (filtered_at port step ∙ ap (tells port) e)

pub filtered_more : (steps : List Step) (step : Step) (counts : List ℕ) (at : ℕ) → length counts ≡ 17
    → AreFiltered steps counts → filtered_by step ≡ Some at
    → AreFiltered (steps ++ step ∷ []) (slice_set counts at (get_or counts at 0 + 1))
filtered_more steps step counts at long are by port within =
    let more = get_or counts at 0 + 1 in
    ⊎_elim
    (λ (e : at ≡ port). subst (λ p. get_or (slice_set counts at more) p 0 ≡ count_by (is_filtered p)
    (steps ++ step ∷ [])) e
    (get_or-set_same counts at more 0 (omega (arith, e, within, long)) ∙ ap (λ n. n + 1)
    (are at (omega (arith, e, within)))
    ∙ sym (filtered_count at steps step (Some at) by ∙ ap {B = ℕ} (λ b. count_by (is_filtered at) steps + cond b 1 0)
    (eq-eqb at at refl))))
    (λ (n : at ≡ port → ⊥). get_or-set_other counts at port more 0 (λ e. n (sym e)) ∙ are port within
    ∙ sym (filtered_count port steps step (Some at) by ∙ ap {B = ℕ}
    (λ b. count_by (is_filtered port) steps + cond b 1 0) (unequal at port n) ∙ add-zero _))
    (cases_eq at port)

pub filtered_none : (steps : List Step) (step : Step) (counts : List ℕ) → AreFiltered steps counts
    → filtered_by step ≡ None → AreFiltered (steps ++ step ∷ []) counts
filtered_none steps step counts are by port within = are port within
    ∙ sym (filtered_count port steps step None by ∙ add-zero _)

-- one more change of a state
next_change : (changes : List (ℕ × PortState)) (i : ℕ) (d : ℕ × PortState) (port : ℕ) (before : PortState)
    → i < length changes
    → changed port before (take (i + 1) changes) ≡ (if (get_or changes i d).0 == port then (get_or changes i d).1
    else changed port before (take i changes))
next_change changes i d port before less = ap (changed port before) (take_more changes i d less)
    ∙ changed-next port before (take i changes) (get_or changes i d)

pub set_more : (old new : List (Option PortState)) (changes : List (ℕ × PortState)) (i : ℕ) (d : ℕ × PortState)
    (at : ℕ) → i < length changes → at ≡ (get_or changes i d).0 → length new ≡ 17
    → HaveSet old new (take i changes)
    → HaveSet old (slice_set new at (Some (get_or changes i d).1)) (take (i + 1) changes)
set_more old new changes i d at less here long set port within start =
    let before = unwrap_or (get_or old port None) start in
    let state = (get_or changes i d).1 in
    let next : changed port before (take (i + 1) changes) ≡ (if at == port then state else changed port before
    (take i changes)) =
    next_change changes i d port before less
    ∙ ap (λ n. if n == port then state else changed port before (take i changes)) (sym here) in
    ⊎_elim
    (λ (e : at ≡ port). subst (λ p. unwrap_or (get_or (slice_set new at (Some state)) p None) start ≡ state) e
    (ap (λ s. unwrap_or s start) (get_or-set_same new at (Some state) None (omega (arith, e, within, long))))
    ∙ sym (next ∙ ap (λ b. if b then state else changed port before (take i changes)) (eq-eqb at port e)))
    (λ (n : at ≡ port → ⊥). ap (λ s. unwrap_or s start)
    (get_or-set_other new at port (Some state) None (λ e. n (sym e))) ∙ set port within start
    ∙ sym (next ∙ ap (λ b. if b then state else changed port before (take i changes)) (unequal at port n)))
    (cases_eq at port)

pub set_none : (old new : List (Option PortState)) (changes : List (ℕ × PortState)) (i : ℕ) (d : ℕ × PortState)
    (at : ℕ) → i < length changes → at ≡ (get_or changes i d).0 → 17 ≤ at
    → HaveSet old new (take i changes) → HaveSet old new (take (i + 1) changes)
set_none old new changes i d at less here far set port within start =
    let before = unwrap_or (get_or old port None) start in
    let apart : at ≡ port → ⊥ = λ e. absurd (omega (arith, e, within, far)) in
    set port within start
    ∙ sym (next_change changes i d port before less ∙ ap
    (λ n. if n == port then (get_or changes i d).1 else changed port before (take i changes)) (sym here)
    ∙ ap (λ b. if b then (get_or changes i d).1 else changed port before (take i changes)) (unequal at port apart))

abbrev states_of : Moved → List (ℕ × PortState)
states_of moved = moved.states

-- the states after one more step, for `Newest::note`
pub newest_more : (steps : List Step) (step : Step) (old new : List (Option PortState)) (moved : Moved)
    → moved_of step ≡ moved ∷ [] → HaveSet old new moved.states → AreNewest steps old
    → AreNewest (steps ++ step ∷ []) new
newest_more steps step old new moved by set are port within start =
    let before = changed port start (changes_of steps) in
    set port within start ∙ ap (λ s. changed port s moved.states) (are port within start)
    ∙ ap (changed port before) (sym (append-nil moved.states))
    ∙ ap (λ ms. changed port before (flat_map states_of ms)) (sym by) ∙ sym (changed-push port start steps step)

pub newest_none : (steps : List Step) (step : Step) (states : List (Option PortState)) → moved_of step ≡ []
    → AreNewest steps states → AreNewest (steps ++ step ∷ []) states
newest_none steps step states by are port within start =
    are port within start ∙ ap (λ ms. changed port (changed port start (changes_of steps)) (flat_map states_of ms))
    (sym by) ∙ sym (changed-push port start steps step)

-- one more step, for the counts of dropped frames
placed_count : (place : ℕ) (steps : List Step) (step : Step) (o : Option ℕ) → place_of step ≡ o
    → count_by (λ s. is_just place (place_of s)) (steps ++ step ∷ []) ≡ count_by (λ s. is_just place (place_of s)) steps
    + cond (is_just place o) 1 0
placed_count place steps step o e =
    count_more (λ s. is_just place (place_of s)) steps step
    ∙ ap (λ p. count_by (λ s. is_just place (place_of s)) steps + cond (is_just place p) 1 0) e

pub drops_more : (steps : List Step) (step : Step) (counts : List ℕ) (at : ℕ) → length counts ≡ 170
    → AreDrops steps counts → place_of step ≡ Some at
    → AreDrops (steps ++ step ∷ []) (slice_set counts at (get_or counts at 0 + 1))
drops_more steps step counts at long are by place within =
    let more = get_or counts at 0 + 1 in
    ⊎_elim
    (λ (e : at ≡ place). subst (λ p. get_or (slice_set counts at more) p 0 ≡ count_by
    (λ s. is_just p (place_of s)) (steps ++ step ∷ [])) e
    (get_or-set_same counts at more 0 (omega (arith, e, within, long)) ∙ ap (λ n. n + 1)
    (are at (omega (arith, e, within)))
    ∙ sym (placed_count at steps step (Some at) by ∙ ap {B = ℕ}
    (λ b. count_by (λ s. is_just at (place_of s)) steps + cond b 1 0) (eq-eqb at at refl))))
    (λ (n : at ≡ place → ⊥). get_or-set_other counts at place more 0 (λ e. n (sym e)) ∙ are place within
    ∙ sym (placed_count place steps step (Some at) by ∙ ap {B = ℕ}
    (λ b. count_by (λ s. is_just place (place_of s)) steps + cond b 1 0) (unequal at place n) ∙ add-zero _))
    (cases_eq at place)

pub drops_none : (steps : List Step) (step : Step) (counts : List ℕ) → AreDrops steps counts
    → place_of step ≡ None → AreDrops (steps ++ step ∷ []) counts
drops_none steps step counts are by place within = are place within
    ∙ sym (placed_count place steps step None by ∙ add-zero _)

-- the place of a count determines its port and its number
digits : (a p r s : ℕ) → r ≤ 9 → s ≤ 9 → (10 * a + r == 10 * p + s) ≡ (a == p && r == s)
digits a p r s small few =
    ⊎_elim
    (λ (e : a ≡ p). ⊎_elim
    (λ (f : r ≡ s). eq-eqb (10 * a + r) (10 * p + s) (omega (arith, e, f))
    ∙ sym (ap (λ b. b && (r == s)) (eq-eqb a p e) ∙ eq-eqb r s f))
    (λ (n : r ≡ s → ⊥). unequal (10 * a + r) (10 * p + s) (λ g. n (omega (arith, e, g)))
    ∙ sym (ap (λ b. b && (r == s)) (eq-eqb a p e) ∙ unequal r s n))
    (cases_eq r s))
    (λ (n : a ≡ p → ⊥). unequal (10 * a + r) (10 * p + s) (λ g. n (omega (arith, small, few, g)))
    ∙ sym (ap (λ b. b && (r == s)) (unequal a p n)))
    (cases_eq a p)

number_few : (reason : Reason) → number_of reason ≤ 8
number_few NotForwarding = omega arith
number_few NotMember = omega arith
number_few Untagged = omega arith
number_few (Reserved octet) = omega arith
number_few Malformed = omega arith
number_few Worn = omega arith
number_few WantOfMemory = omega arith
number_few STagged = omega arith
number_few Long = omega arith

dropped_at : (port : ℕ) (reason : Reason) (step : Step)
    → is_just (10 * port + number_of reason) (place_of step) ≡ is_dropped port reason step
dropped_at port reason (Receive at item learnt (Filtered other) moved) =
    let few = number_few other in
    let small = number_few reason in
    digits at port (number_of other) (number_of reason) (omega (arith, few)) (omega (arith, small))
dropped_at port reason (Receive at item learnt (Relayed [] refused) moved) =
    let small = number_few reason in
    unequal (10 * at + 9) (10 * port + number_of reason) (λ g. absurd (omega (arith, small, g)))
dropped_at port reason (Receive at item learnt (Relayed (c ∷ cs) refused) moved) = refl
dropped_at port reason (Receive at item learnt Heard moved) = refl
dropped_at port reason (Poll item) = refl
dropped_at port reason (Feed item) = refl
dropped_at port reason (Deliver item gone) = refl
dropped_at port reason (Transmit at item) = refl
dropped_at port reason (Tick now moved) = refl
dropped_at port reason (Admin at up moved) = refl
dropped_at port reason (Take number item lost) = refl
dropped_at port reason (Put item) = refl

nowhere_at : (port : ℕ) (step : Step) → is_just (10 * port + 9) (place_of step) ≡ goes_nowhere port step
nowhere_at port (Receive at item learnt (Filtered other) moved) =
    let few = number_few other in
    unequal (10 * at + number_of other) (10 * port + 9) (λ g. absurd (omega (arith, few, g)))
nowhere_at port (Receive at item learnt (Relayed [] refused) moved) =
    digits at port 9 9 (omega arith) (omega arith) ∙ and-true (at == port)
nowhere_at port (Receive at item learnt (Relayed (c ∷ cs) refused) moved) = refl
nowhere_at port (Receive at item learnt Heard moved) = refl
nowhere_at port (Poll item) = refl
nowhere_at port (Feed item) = refl
nowhere_at port (Deliver item gone) = refl
nowhere_at port (Transmit at item) = refl
nowhere_at port (Tick now moved) = refl
nowhere_at port (Admin at up moved) = refl
nowhere_at port (Take number item lost) = refl
nowhere_at port (Put item) = refl

pub dropped_count : (port : ℕ) (reason : Reason) (steps : List Step)
    → count_by (λ s. is_just (10 * port + number_of reason) (place_of s)) steps ≡ count_by (is_dropped port reason) steps
dropped_count port reason steps =
    count_alike (λ s. is_just (10 * port + number_of reason) (place_of s)) (is_dropped port reason)
    (dropped_at port reason) steps

pub nowhere_count : (port : ℕ) (steps : List Step)
    → count_by (λ s. is_just (10 * port + 9) (place_of s)) steps ≡ count_by (goes_nowhere port) steps
nowhere_count port steps =
    count_alike (λ s. is_just (10 * port + 9) (place_of s)) (goes_nowhere port) (nowhere_at port) steps

-- one more step, for the changes after the first customer's frame
late_first : (x : Step) (b : Bool) → list_any changes_state (if b then x ∷ [] else []) ≡ (b && changes_state x)
late_first x true = or-false (changes_state x)
late_first x false = refl

late_next : (x y : Step) (ys : List Step) (b : Bool)
    → list_any changes_state (since_first (ys ++ x ∷ [])) ≡ (list_any changes_state (since_first ys)
    || ((list_any is_receipt ys || is_receipt x) && changes_state x))
    → list_any changes_state (if b then y ∷ (ys ++ x ∷ []) else since_first (ys ++ x ∷ []))
    ≡ (list_any changes_state (if b then y ∷ ys else since_first ys)
    || (((b || list_any is_receipt ys) || is_receipt x) && changes_state x))
late_next x y ys true before = list_any-append changes_state (y ∷ ys) (x ∷ [])
    ∙ ap (λ b. list_any changes_state (y ∷ ys) || b) (or-false (changes_state x))
late_next x y ys false before = before

pub late_more : (x : Step) (xs : List Step) → changes_late (xs ++ x ∷ [])
    ≡ (changes_late xs || ((list_any is_receipt xs || is_receipt x) && changes_state x))
late_more x [] = late_first x (is_receipt x)
late_more x (y ∷ ys) = late_next x y ys (is_receipt y) (late_more x ys)

pub any_more : {X : Type 0} (p : X → Bool) (xs : List X) (x : X) → list_any p (xs ++ x ∷ []) ≡ (list_any p xs || p x)
any_more p xs x = list_any-append p xs (x ∷ []) ∙ ap (λ b. list_any p xs || b) (or-false (p x))
