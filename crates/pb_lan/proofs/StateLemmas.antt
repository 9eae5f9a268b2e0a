-- The states of ports by their kind, and the loops that list them. For `port_state` and `start_shape`.
use Rattle.std.proofs.Common.{◌≡◌, ℕ, zero, suc, ◌+◌, ◌<◌, Bool, true, false, if◌then◌else◌, ◌||◌, ◌==◌, flat_map}
use Rattle.std.proofs.Common.{List, [], ◌∷◌, ◌++◌, Some, None, is_some, map, take, length, refl, sym, ap, ◌∙◌, arith}
use Rattle.std.proofs.Common.{add-one, append-nil, unwrap_or}
use Rattle.std.proofs.lemmas.Grind.{flat_map-append}
use Rattle.std.specs.List.{list_any}
use Rattle.std.specs.declared.option.Option.{Option}
use Rattle.pb_lan.specs.declared.plan.LinkPlan.{LinkPlan}
use Rattle.pb_lan.specs.Rules.{is_same}
use Rattle.pb_frame.specs.Lists.{first}
use Rattle.pb_lan.specs.Numbering.{numbers_from}
use Rattle.pb_lan.specs.Ports.{all_ends, port_at, is_customer_at, is_end_at, customer_or_else, provider_or_unused}
use Rattle.pb_lan.specs.Ports.{Port, ends_of}
use Rattle.pb_lan.specs.Shapes.{moved_of, start_by, state_by, state_after, changes_of, changed}
use Rattle.pb_lan.specs.LastShapes.{newest_by, newest_state}
use Rattle.pb_lan.specs.declared.plan.CustomerPlan.{CustomerPlan}
use Rattle.pb_lan.specs.declared.plan.End.{End}
use Rattle.pb_lan.specs.declared.plan.Plan.{Plan}
use Rattle.pb_lan.specs.declared.plan.Spanning.{Spanning}
use Rattle.pb_lan.specs.declared.shape.PortState.{PortState}
use Rattle.pb_lan.specs.declared.shape.Shape.{Shape}
use Rattle.pb_lan.specs.declared.shape.PortState.TheVariants.{Forwarding, Discarding, Learning}
use Rattle.pb_lan.specs.declared.step.Moved.{Moved}
use Rattle.pb_lan.specs.declared.step.Step.{Step}
use Rattle.pb_lan.specs.Ports.Port.{Provider}

-- a first entry that passes the test exists if and only if some entry passes
pub is_some-first : {X : Type 0} (test : X → Bool) (xs : List X) → is_some (first test xs) ≡ list_any test xs
is_some-first test [] = refl
is_some-first {X} test (x ∷ xs) = by (test x) (is_some-first test xs)
  where
    by : (b : Bool) → is_some (first test xs) ≡ list_any test xs
        → is_some (if b then Some x else first test xs) ≡ (b || list_any test xs)
    by true rest = refl
    by false rest = rest

-- a first end that passes the test exists if and only if an end of some link passes
pub is_some-ends : (test : End → Bool) (links : List LinkPlan)
    → is_some (first test (flat_map ends_of links)) ≡ list_any (λ l. test l.a || test l.b) links
is_some-ends test [] = refl
is_some-ends test (l ∷ links) = by (test l.a) (test l.b) (is_some-ends test links)
  where
    by : (x y : Bool) → is_some (first test (flat_map ends_of links)) ≡ list_any (λ k. test k.a || test k.b) links
        → is_some (if x then Some l.a else (if y then Some l.b else first test (flat_map ends_of links)))
        ≡ ((x || y) || list_any (λ k. test k.a || test k.b) links)
    by true y e = refl
    by false true e = refl
    by false false e = e

-- two states that compare as equal are the same
pub same_state : (a b : PortState) → is_same a b ≡ true → a ≡ b
same_state Discarding Discarding h = refl
same_state Learning Learning h = refl
same_state Forwarding Forwarding h = refl
same_state _ _ h = cc

customer_first : (spanning : Spanning) (other : Port) (newest : Option PortState) (o : Option CustomerPlan)
    → is_some o ≡ true
    → newest_by spanning (customer_or_else o other) newest ≡ Forwarding
customer_first spanning other newest None e = cc
customer_first spanning other newest (Some c) e = refl

-- a customer port is Forwarding
pub newest-customer : (plan : Plan) (b q : ℕ) (newest : Option PortState)
    → list_any (is_customer_at b q) plan.customers ≡ true → newest_state plan b q newest ≡ Forwarding
newest-customer plan b q newest e =
    customer_first plan.spanning (provider_or_unused (first (is_end_at b q) (all_ends plan))) newest
    (first (is_customer_at b q) plan.customers)
    (is_some-first (is_customer_at b q) plan.customers ∙ e)

other_first : (spanning : Spanning) (other : Port) (newest : Option PortState) (o : Option CustomerPlan)
    → is_some o ≡ false
    → newest_by spanning (customer_or_else o other) newest ≡ newest_by spanning other newest
other_first spanning other newest None e = refl
other_first spanning other newest (Some c) e = cc

-- without a customer port the state is that of an end or of an unused port
pub newest-other : (plan : Plan) (b q : ℕ) (newest : Option PortState) (o : Option End)
    → list_any (is_customer_at b q) plan.customers ≡ false → o ≡ first (is_end_at b q) (all_ends plan)
    → newest_state plan b q newest ≡ newest_by plan.spanning (provider_or_unused o) newest
newest-other plan b q newest o e found =
    other_first plan.spanning (provider_or_unused (first (is_end_at b q) (all_ends plan))) newest
    (first (is_customer_at b q) plan.customers)
    (is_some-first (is_customer_at b q) plan.customers ∙ e)
    ∙ ap (λ (p : Option End). newest_by plan.spanning (provider_or_unused p) newest) (sym found)

-- if the newest state is the one to which the changes led, whatever the start, it gives the state after the changes
newest-by : (spanning : Spanning) (p : Port) (port : ℕ) (newest : Option PortState) (changes : List (ℕ × PortState))
    → ((start : PortState) → unwrap_or newest start ≡ changed port start changes)
    → newest_by spanning p newest ≡ state_by spanning p port changes
newest-by spanning (Provider e) port newest changes led = led (start_by spanning e.start)
newest-by spanning _ port newest changes led = refl

pub newest-after : (plan : Plan) (b q : ℕ) (newest : Option PortState) (steps : List Step)
    → ((start : PortState) → unwrap_or newest start ≡ changed q start (changes_of steps))
    → newest_state plan b q newest ≡ state_after plan b steps q
newest-after plan b q newest steps led = newest-by plan.spanning (port_at plan b q) q newest (changes_of steps) led

-- without a newest state the state is that at the start
pub start_newest : (plan : Plan) (b q : ℕ) → newest_state plan b q None ≡ state_after plan b [] q
start_newest plan b q = newest-after plan b q None [] (λ start. refl)

-- changes after others
changed-append : (q : ℕ) (s : PortState) (front bs : List (ℕ × PortState))
    → changed q s (front ++ bs) ≡ changed q (changed q s front) bs
changed-append q s [] bs = refl
changed-append q s (a ∷ front) bs = changed-append q (if a.0 == q then a.1 else s) front bs

abbrev states_of : Moved → List (ℕ × PortState)
states_of moved = moved.states

-- the changes of one more step
pub changed-push : (q : ℕ) (s : PortState) (steps : List Step) (step : Step)
    → changed q s (changes_of (steps ++ step ∷ [])) ≡ changed q (changed q s (changes_of steps))
    (flat_map (λ moved. moved.states) (moved_of step))
changed-push q s steps step =
    ap (changed q s) (ap (flat_map states_of)
    (flat_map-append moved_of steps (step ∷ []) ∙ ap (λ ms. flat_map moved_of steps ++ ms)
    (append-nil (moved_of step)))
    ∙ flat_map-append states_of (flat_map moved_of steps) (moved_of step))
    ∙ changed-append q s (changes_of steps) (flat_map states_of (moved_of step))

-- one more change
pub changed-next : (q : ℕ) (s : PortState) (changes : List (ℕ × PortState)) (change : ℕ × PortState)
    → changed q s (changes ++ change ∷ []) ≡ (if change.0 == q then change.1 else changed q s changes)
changed-next q s changes change = changed-append q s changes (change ∷ [])

-- the values of one more number
numbers-suc : {X Y : Type 0} (f : ℕ → Y) (j k : ℕ) (xs : List X) → k < length xs
    → map f (take (suc k) (numbers_from j xs)) ≡ map f (take k (numbers_from j xs)) ++ f (j + k) ∷ []
numbers-suc f j k [] h = absurd (omega arith)
numbers-suc f j zero (x ∷ xs) h = let e : j ≡ j + 0 = omega arith in ap (λ n. f n ∷ []) e
numbers-suc f j (suc k) (x ∷ xs) h =
    let e : (j + 1) + k ≡ j + suc k = omega arith in
    ap (λ ys. f j ∷ ys) (numbers-suc f (j + 1) k xs (omega arith) ∙ ap
    (λ n. map f (take k (numbers_from (j + 1) xs)) ++ f n ∷ []) e)

pub numbers-more : {X Y : Type 0} (f : ℕ → Y) (j k : ℕ) (xs : List X) → k < length xs
    → map f (take (k + 1) (numbers_from j xs)) ≡ map f (take k (numbers_from j xs)) ++ f (k + j) ∷ []
numbers-more f j k xs h =
    let e : j + k ≡ k + j = omega arith in
    ap (λ n. map f (take n (numbers_from j xs))) (add-one k) ∙ numbers-suc f j k xs h
    ∙ ap (λ n. map f (take k (numbers_from j xs)) ++ f n ∷ []) e

-- the values of all numbers
pub numbers-all : {X Y : Type 0} (f : ℕ → Y) (j k : ℕ) (xs : List X) → k ≡ length xs
    → map f (take k (numbers_from j xs)) ≡ map f (numbers_from j xs)
numbers-all f j zero (x ∷ xs) h = absurd (omega (arith, h))
numbers-all f j (suc k) (x ∷ xs) h = ap (λ ys. f j ∷ ys) (numbers-all f (j + 1) k xs (omega (arith, h)))
numbers-all f j _ _ h = refl

abbrev pub shape_of : List (List PortState) → Shape
shape_of states = record { states = states }
