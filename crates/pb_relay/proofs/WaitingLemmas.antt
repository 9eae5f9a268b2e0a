-- The waiting items by class are the waiting items. For the queues of a port.
use Rattle.std.proofs.Common.{◌≡◌, ◌≢◌, ℕ, zero, suc, ◌+◌, ◌<◌, ◌≤◌, Bool, true, false, cond, Some, None, List, []}
use Rattle.std.proofs.Common.{◌∷◌, ◌++◌, map, length, get_or, set, drop, slice_get, ◌==◌, refl, sym, ap, ◌∙◌, subst}
use Rattle.std.proofs.Common.{arith, eq-eqb, append-nil}
use Rattle.std.proofs.lemmas.Bool.{eqb-true}
use Rattle.std.specs.List.{AllByRecursion, filter}
use Rattle.std.specs.Option.{option_map}
use Rattle.pb_frame.specs.Lists.{first}
use Rattle.pb_lan.specs.Queues.{Waiting, next_out, highest, without}
use Rattle.pb_lan.specs.declared.step.Item.{Item}
use Rattle.pb_relay.specs.Classes.{number_in, put_in, first_out, after_first, or_else, IsHighest, of_class, by_class}
use Rattle.pb_relay.proofs.ClassLemmas.{is_highest, number_set}

abbrev pub count_up : ℕ → ℕ → List ℕ
count_up k zero = []
count_up k (suc n) = k ∷ count_up (k + 1) n

-- lists by class that differ only in a class below these are the same
pub at_none : {X : Type 0} (F G : ℕ → X) (c : ℕ) → ((j : ℕ) → j ≢ c → G j ≡ F j) → (n k : ℕ) → c < k
    → map G (count_up k n) ≡ map F (count_up k n)
at_none F G c h zero k l = refl
at_none F G c h (suc n) k l = ap (λ q. q ∷ map G (count_up (k + 1) n)) (h k (omega arith))
    ∙ ap (λ qs. F k ∷ qs) (at_none F G c h n (k + 1) (omega arith))

-- lists by class that differ in one class differ at one place
pub at_one : {X : Type 0} (F G : ℕ → X) (c : ℕ) → ((j : ℕ) → j ≢ c → G j ≡ F j) → (n k i : ℕ) → c ≡ k + i → i < n
    → map G (count_up k n) ≡ set (map F (count_up k n)) i (G c)
at_one F G c h zero k i e l = absurd (omega arith)
at_one F G c h (suc n) k zero e l =
    let s : k ≡ c = omega arith in
    ap (λ j. G j ∷ map G (count_up (k + 1) n)) s ∙ ap (λ qs. G c ∷ qs) (at_none F G c h n (k + 1) (omega arith))
at_one F G c h (suc n) k (suc i) e l =
    ap (λ q. q ∷ map G (count_up (k + 1) n)) (h k (omega arith))
    ∙ ap (λ qs. F k ∷ qs) (at_one F G c h n (k + 1) i (omega arith) (omega arith))

-- the items at a class of the lists
pub get_class : (F : ℕ → List Item) (n k i : ℕ) → i < n → get_or (map F (count_up k n)) i [] ≡ F (k + i)
get_class F zero k i l = absurd (omega arith)
get_class F (suc n) k zero l = let s : k ≡ k + 0 = omega arith in ap F s
get_class F (suc n) k (suc i) l = let s : (k + 1) + i ≡ k + suc i = omega arith in get_class F n (k + 1) i
    (omega arith) ∙ ap F s

-- if all classes from one on are empty, none of them has a next item
pub none_above : (F : ℕ → List Item) (n k m : ℕ) → ((j : ℕ) → k + m ≤ j → F j ≡ [])
    → first_out (drop m (map F (count_up k n))) ≡ None
none_above F zero k zero h = refl
none_above F zero k (suc m) h = refl
none_above F (suc n) k zero h =
    ap (λ o. or_else o (slice_get (F k) 0)) (none_above F n (k + 1) 0 (λ j l. h j (omega arith)))
    ∙ ap (λ q. slice_get q 0) (h k (omega arith))
none_above F (suc n) k (suc m) h = none_above F n (k + 1) m (λ j l. h j (omega arith))

-- the items of a class with one more item that waits
pub of_class-push : (j : ℕ) (ws : List Waiting) (w : Waiting) → of_class j (ws ++ w ∷ []) ≡ of_class j ws
    ++ of_class j (w ∷ [])
of_class-push j [] w = refl
of_class-push j (v ∷ vs) w =
    elim (v.class == j) as (λ b. map (λ w. w.item)
    (cond b (v ∷ filter (λ w. w.class == j) (vs ++ w ∷ [])) (filter (λ w. w.class == j) (vs ++ w ∷ [])))
    ≡ map (λ w. w.item) (cond b (v ∷ filter (λ w. w.class == j) vs) (filter (λ w. w.class == j) vs))
    ++ of_class j (w ∷ []))
    [ true ↦ ap (λ zs. v.item ∷ zs) (of_class-push j vs w) | false ↦ of_class-push j vs w ]

pub of_class-own : (j : ℕ) (w : Waiting) (ws : List Waiting) → w.class ≡ j
    → of_class j (w ∷ ws) ≡ w.item ∷ of_class j ws
of_class-own j w ws e =
    ap (λ b. map (λ w. w.item) (cond b (w ∷ filter (λ w. w.class == j) ws) (filter (λ w. w.class == j) ws)))
    (eq-eqb w.class j e)

pub of_class-other : (j : ℕ) (w : Waiting) (ws : List Waiting) → j ≢ w.class → of_class j (w ∷ ws) ≡ of_class j ws
of_class-other j w ws n =
    elim (w.class == j) as (λ b. (w.class == j) ≡ b → map (λ w. w.item)
    (cond b (w ∷ filter (λ w. w.class == j) ws) (filter (λ w. w.class == j) ws)) ≡ of_class j ws)
    [ true ↦ λ e. absurd (n (sym (eqb-true w.class j e))) | false ↦ λ e. refl ] refl

-- one more item that waits is appended to its class
pub by_class-push : (ws : List Waiting) (w : Waiting) → w.class < 9
    → by_class (ws ++ w ∷ []) ≡ put_in w.class w.item (by_class ws)
by_class-push ws w l =
    at_one (λ j. of_class j ws) (λ j. of_class j (ws ++ w ∷ [])) w.class
    (λ j n. of_class-push j ws w ∙ ap (λ zs. of_class j ws ++ zs) (of_class-other j w [] n) ∙ append-nil
    (of_class j ws))
    9 0 w.class (omega arith) l
    ∙ ap (set (by_class ws) w.class)
    (of_class-push w.class ws w ∙ ap (λ zs. of_class w.class ws ++ zs) (of_class-own w.class w [] refl)
    ∙ ap (λ zs. zs ++ w.item ∷ [])
    (sym (get_class (λ j. of_class j ws) 9 0 w.class l ∙ ap (λ j. of_class j ws) zero-plus)))
  where
    zero-plus : 0 + w.class ≡ w.class
    zero-plus = omega arith

-- the highest class is at least that of each item
highest-cons : (w : Waiting) (ws : List Waiting) → (w.class ≤ highest (w ∷ ws)) × (highest ws ≤ highest (w ∷ ws))
highest-cons w ws = (omega arith, omega arith)

above_highest : (j : ℕ) (ws : List Waiting) → highest ws < j → of_class j ws ≡ []
above_highest j [] l = refl
above_highest j (w ∷ ws) l =
    let h = highest-cons w ws in
    of_class-other j w ws (omega arith) ∙ above_highest j ws (omega arith)

highest-below : (n : ℕ) (ws : List Waiting) → 0 < n → AllByRecursion (λ w. w.class < n) ws → highest ws < n
highest-below n [] p a = p
highest-below n (w ∷ ws) p a = let r = highest-below n ws p a.1 in let h = a.0 in omega arith

highest-some : (w : Waiting) (ws : List Waiting) → 0 < length (of_class (highest (w ∷ ws)) (w ∷ ws))
highest-some w [] = subst (λ (n : ℕ). 0 < length (of_class n (w ∷ []))) same
    (rw (of_class-own w.class w [] refl) (omega arith))
  where
    same : w.class ≡ highest (w ∷ [])
    same = omega arith
highest-some w (v ∷ vs) =
    elim (w.class == highest (w ∷ v ∷ vs)) as
    (λ b. (w.class == highest (w ∷ v ∷ vs)) ≡ b → 0 < length (of_class (highest (w ∷ v ∷ vs)) (w ∷ v ∷ vs))) [
      | true ↦ λ e. rw (of_class-own (highest (w ∷ v ∷ vs)) w (v ∷ vs) (eqb-true w.class (highest (w ∷ v ∷ vs)) e))
          (omega arith)
      | false ↦ λ e. let n = other e in let s : highest (v ∷ vs) ≡ highest (w ∷ v ∷ vs) = omega arith in
          rw (of_class-other (highest (w ∷ v ∷ vs)) w (v ∷ vs) n)
          (subst (λ (k : ℕ). 0 < length (of_class k (v ∷ vs))) s (highest-some v vs))
    ] refl
  where
    other : (w.class == highest (w ∷ v ∷ vs)) ≡ false → highest (w ∷ v ∷ vs) ≢ w.class
    other e h = let t = eq-eqb w.class (highest (w ∷ v ∷ vs)) (sym h) in cc

first_of_class : (j : ℕ) (ws : List Waiting)
    → slice_get (of_class j ws) 0 ≡ option_map (λ w. w.item) (first (λ w. w.class == j) ws)
first_of_class j [] = refl
first_of_class j (w ∷ ws) =
    elim (w.class == j) as (λ b. slice_get
    (map (λ w. w.item) (cond b (w ∷ filter (λ w. w.class == j) ws) (filter (λ w. w.class == j) ws))) 0
    ≡ option_map (λ w. w.item) (cond b (Some w) (first (λ w. w.class == j) ws)))
    [ true ↦ refl | false ↦ first_of_class j ws ]

without-own : (j : ℕ) (ws : List Waiting) → of_class j (without j ws) ≡ drop 1 (of_class j ws)
without-own j [] = refl
without-own j (w ∷ ws) =
    elim (w.class == j) as (λ b. (w.class == j) ≡ b → of_class j (cond b ws (w ∷ without j ws))
    ≡ drop 1 (map (λ w. w.item) (cond b (w ∷ filter (λ w. w.class == j) ws) (filter (λ w. w.class == j) ws)))) [
      | true ↦ λ e. refl
      | false ↦ λ e. ap (λ b. map (λ w. w.item)
          (cond b (w ∷ filter (λ w. w.class == j) (without j ws)) (filter (λ w. w.class == j) (without j ws)))) e
          ∙ without-own j ws
    ] refl

without-other : (j h : ℕ) (ws : List Waiting) → j ≢ h → of_class j (without h ws) ≡ of_class j ws
without-other j h [] n = refl
without-other j h (w ∷ ws) n =
    elim (w.class == h) as (λ b. (w.class == h) ≡ b → of_class j (cond b ws (w ∷ without h ws)) ≡ of_class j (w ∷ ws)) [
      | true ↦ λ e. sym (of_class-other j w ws (λ s. n (s ∙ eqb-true w.class h e)))
      | false ↦ λ e. keep (w.class == j) (without-other j h ws n)
    ] refl
  where
    keep : (b : Bool) → of_class j (without h ws) ≡ of_class j ws
        → map (λ w. w.item) (cond b (w ∷ filter (λ w. w.class == j) (without h ws))
        (filter (λ w. w.class == j) (without h ws)))
        ≡ map (λ w. w.item) (cond b (w ∷ filter (λ w. w.class == j) ws) (filter (λ w. w.class == j) ws))
    keep true ih = ap (λ zs. w.item ∷ zs) ih
    keep false ih = ih

-- the highest class that is not empty is the highest class of an item
highest_class : (w : Waiting) (ws : List Waiting) → AllByRecursion (λ w. w.class < 9) (w ∷ ws)
    → IsHighest (by_class (w ∷ ws)) (Some (highest (w ∷ ws)))
highest_class w ws a =
    let h = highest (w ∷ ws) in
    let l : h < 9 = highest-below 9 (w ∷ ws) (omega arith) a in
    let z : 0 + h ≡ h = omega arith in
    let g : get_or (by_class (w ∷ ws)) h [] ≡ of_class h (w ∷ ws) = get_class (λ j. of_class j (w ∷ ws)) 9 0 h l
    ∙ ap (λ j. of_class j (w ∷ ws)) z in
    is_highest (by_class (w ∷ ws)) h l
    (subst (λ (q : List Item). 0 < length q) (sym g) (highest-some w ws))
    (none_above (λ j. of_class j (w ∷ ws)) 9 0 (suc h) (λ j b. above_highest j (w ∷ ws) (omega arith)))

-- the next item by class is the next item
pub next_by_class : (ws : List Waiting) → AllByRecursion (λ w. w.class < 9) ws → first_out (by_class ws) ≡ next_out ws
next_by_class [] a = refl
next_by_class (w ∷ ws) a =
    let h = highest (w ∷ ws) in
    let l : h < 9 = highest-below 9 (w ∷ ws) (omega arith) a in
    let z : 0 + h ≡ h = omega arith in
    let g : get_or (by_class (w ∷ ws)) h [] ≡ of_class h (w ∷ ws) = get_class (λ j. of_class j (w ∷ ws)) 9 0 h l
    ∙ ap (λ j. of_class j (w ∷ ws)) z in
    (highest_class w ws a).2 ∙ ap (λ q. slice_get q 0) g ∙ first_of_class h (w ∷ ws)

-- the items by class without the next one are the items without the next one, by class
pub rest_by_class : (ws : List Waiting) → AllByRecursion (λ w. w.class < 9) ws
    → by_class (without (highest ws) ws) ≡ after_first (by_class ws)
rest_by_class [] a = refl
rest_by_class (w ∷ ws) a =
    let h = highest (w ∷ ws) in
    let l : h < 9 = highest-below 9 (w ∷ ws) (omega arith) a in
    let z : 0 + h ≡ h = omega arith in
    let g : get_or (by_class (w ∷ ws)) h [] ≡ of_class h (w ∷ ws) = get_class (λ j. of_class j (w ∷ ws)) 9 0 h l
    ∙ ap (λ j. of_class j (w ∷ ws)) z in
    at_one (λ j. of_class j (w ∷ ws)) (λ j. of_class j (without h (w ∷ ws))) h (λ j n. without-other j h (w ∷ ws) n) 9
    0 h (omega arith) l
    ∙ ap (set (by_class (w ∷ ws)) h) (without-own h (w ∷ ws) ∙ ap (drop 1) (sym g))
    ∙ sym (highest_class w ws a).3

-- the items by class are as many as the items
pub number_by_class : (ws : List Waiting) → AllByRecursion (λ w. w.class < 9) ws → number_in (by_class ws) ≡ length ws
number_by_class [] a = refl
number_by_class (w ∷ ws) a =
    let z : 0 + w.class ≡ w.class = omega arith in
    let g : get_or (by_class ws) w.class [] ≡ of_class w.class ws = get_class (λ j. of_class j ws) 9 0 w.class a.0
    ∙ ap (λ j. of_class j ws) z in
    let e : by_class (w ∷ ws) ≡ set (by_class ws) w.class (w.item ∷ of_class w.class ws) =
    at_one (λ j. of_class j ws) (λ j. of_class j (w ∷ ws)) w.class (λ j n. of_class-other j w ws n) 9 0 w.class
    (omega arith) a.0
    ∙ ap (set (by_class ws) w.class) (of_class-own w.class w ws refl) in
    omega (
      arith,
      ap number_in e,
      number_set (by_class ws) w.class (w.item ∷ of_class w.class ws) a.0,
      ap length g,
      number_by_class ws a.1,
    )
