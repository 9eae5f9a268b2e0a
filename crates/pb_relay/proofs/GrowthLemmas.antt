-- What waits at a port after one more item is queued there. For the queues of a port.
use Rattle.std.proofs.Common.{◌≡◌, ◌≢◌, ◌⊎◌, inl, inr, ℕ, ◌+◌, ◌<◌, ◌≤◌, Bool, true, false, cond, not, ◌&&◌, is_some}
use Rattle.std.proofs.Common.{None, List, [], ◌∷◌, ◌++◌, map, length, set, slice_get, ◌==◌, nat_le, refl, sym}
use Rattle.std.proofs.Common.{ap, ◌∙◌, subst, arith, append-nil, length-append, ne_eqb}
use Rattle.std.proofs.lemmas.Bool.{eqb-true, cases_eq}
use Rattle.std.proofs.lemmas.Bool.Decides.{nat_tests}
use Rattle.std.proofs.lemmas.List.{length-map}
use Rattle.std.specs.List.{AllByRecursion, filter}
use Rattle.std.specs.Option.{option_to_list}
use Rattle.pb_frame.proofs.Lists.{All-append, All-imply, All-passed, and-left}
use Rattle.pb_lan.specs.Queues.{Waiting, is_own, without_replaced, replaced_in, own_class, is_full_by, without}
use Rattle.pb_lan.specs.declared.plan.Queues.{Queues}
use Rattle.pb_lan.specs.declared.plan.Queues.TheVariants.{PerPort, PerClass}
use Rattle.pb_lan.specs.declared.step.Item.{Item}
use Rattle.pb_relay.specs.Backlogs.{is_full_with, older_in}
use Rattle.pb_relay.specs.Classes.{put_in, put_alone, placed, of_class, by_class}
use Rattle.pb_relay.specs.Standing.{IsClassed, AreClassed, AreWithin}
use Rattle.pb_relay.proofs.WaitingLemmas.{at_one, get_class, of_class-push, of_class-own, of_class-other}
use Rattle.pb_relay.proofs.WaitingLemmas.{by_class-push, number_by_class}

-- the class of the bridge's own BPDUs
own-class : (w : Waiting) → is_own w ≡ true → w.class ≡ 8
own-class w h = eqb-true w.class 8 (and-left (w.class == 8) (not (is_some w.item.mark)) h)

below : (w : Waiting) → IsClassed w → w.class < 9
below w (inl l) = omega (arith, l)
below w (inr h) = let e = own-class w h in omega (arith, e)

-- there are nine classes
pub below_nine : (ws : List Waiting) → AreClassed ws → AllByRecursion (λ w. w.class < 9) ws
below_nine ws a = All-imply IsClassed (λ w. w.class < 9) below ws a

-- the waiting items without the bridge's own BPDUs
abbrev spared : List Waiting → List Waiting
spared ws = filter (λ w. not (is_own w)) ws

abbrev bpdu : Item → Waiting
bpdu item = record { class = 8; item = item }

-- the traffic classes keep their items
of_class-spared : (j : ℕ) (ws : List Waiting) → j ≢ 8 → of_class j (spared ws) ≡ of_class j ws
of_class-spared j [] n = refl
of_class-spared j (w ∷ ws) n =
    elim (is_own w) as (λ b. is_own w ≡ b → of_class j (cond (not b) (w ∷ spared ws) (spared ws)) ≡ of_class j
    (w ∷ ws)) [
      | true ↦ λ e. of_class-spared j ws n ∙ sym (of_class-other j w ws (λ s. n (s ∙ own-class w e)))
      | false ↦ λ e. keep (w.class == j) (of_class-spared j ws n)
    ] refl
  where
    keep : (b : Bool) → of_class j (spared ws) ≡ of_class j ws
        → map (λ w. w.item) (cond b (w ∷ filter (λ w. w.class == j) (spared ws))
        (filter (λ w. w.class == j) (spared ws)))
        ≡ map (λ w. w.item) (cond b (w ∷ filter (λ w. w.class == j) ws) (filter (λ w. w.class == j) ws))
    keep true ih = ap (λ zs. w.item ∷ zs) ih
    keep false ih = ih

-- the place of the BPDUs is empty
of_class-none : (ws : List Waiting) → AreClassed ws → of_class 8 (spared ws) ≡ []
of_class-none [] a = refl
of_class-none (w ∷ ws) a =
    elim (is_own w) as (λ b. is_own w ≡ b → of_class 8 (cond (not b) (w ∷ spared ws) (spared ws)) ≡ []) [
      | true ↦ λ e. of_class-none ws a.1
      | false ↦ λ e. of_class-other 8 w (spared ws) (other e a.0)
          ∙ of_class-none ws a.1
    ] refl
  where
    other : is_own w ≡ false → IsClassed w → 8 ≢ w.class
    other e (inl l) = λ s. absurd (omega (arith, l, s))
    other e (inr h) = λ s. cc

-- the items of each class after a newer BPDU has taken the place of the others
replaced-other : (j : ℕ) (ws : List Waiting) (item : Item) → j ≢ 8
    → of_class j (spared ws ++ bpdu item ∷ []) ≡ of_class j ws
replaced-other j ws item n =
    of_class-push j (spared ws) (bpdu item)
    ∙ ap (λ zs. zs ++ of_class j (bpdu item ∷ [])) (of_class-spared j ws n)
    ∙ ap (λ zs. of_class j ws ++ zs) (of_class-other j (bpdu item) [] n) ∙ append-nil (of_class j ws)

replaced-own : (ws : List Waiting) (item : Item) → AreClassed ws
    → of_class 8 (spared ws ++ bpdu item ∷ []) ≡ item ∷ []
replaced-own ws item a =
    of_class-push 8 (spared ws) (bpdu item)
    ∙ ap (λ zs. zs ++ of_class 8 (bpdu item ∷ [])) (of_class-none ws a)

by_class-own : (ws : List Waiting) (item : Item) → AreClassed ws
    → by_class (spared ws ++ bpdu item ∷ []) ≡ put_alone item (by_class ws)
by_class-own ws item a =
    at_one (λ j. of_class j ws) (λ j. of_class j (spared ws ++ bpdu item ∷ [])) 8
    (λ j n. replaced-other j ws item n) 9 0 8 (omega arith) (omega arith)
    ∙ ap (set (by_class ws) 8) (replaced-own ws item a)

-- the number of items of a class
of_class-length : (j : ℕ) (ws : List Waiting) → length (of_class j ws) ≡ length (filter (λ w. w.class == j) ws)
of_class-length j ws = length-map (filter (λ w. w.class == j) ws) (λ w. w.item)

-- what waits at a port after an item was queued there, or was not
pub record Grows (queues : Queues) (most class : ℕ) (item : Item) (gets : Bool) (ws vs : List Waiting) : Type 0 where
  pub kept : by_class vs ≡ cond gets (placed class item (by_class ws)) (by_class ws)
  pub classed : AreClassed vs
  pub within : AreWithin queues most vs

-- nothing was queued
pub stays : (queues : Queues) (most class : ℕ) (item : Item) (ws vs : List Waiting) → vs ≡ ws → AreClassed ws
    → AreWithin queues most ws → Grows queues most class item false ws vs
stays queues most class item ws vs e a l =
    subst (Grows queues most class item false ws) (sym e) (record { kept = refl; classed = a; within = l })

-- one more item in a class
within-more : (queues : Queues) (most class : ℕ) (item : Item) (ws : List Waiting) → class < 8
    → AreWithin queues most ws → is_full_by queues most class ws ≡ false
    → AreWithin queues most (ws ++ record { class = class; item = item } ∷ [])
within-more PerPort most class item ws l w f =
    let s : length ws < most = grind (arith, nat_tests) in
    omega (arith, length-append ws (record { class = class; item = item } ∷ []))
within-more PerClass most class item ws l w f = λ j. by j (cases_eq j class)
  where
    more : Waiting
    more = record { class = class; item = item }

    traffic : class ≢ 8
    traffic e = absurd (omega (arith, l, e))

    room : length (filter (λ v. v.class == class) ws) < most
    room = let g : nat_le most (length (filter (λ v. v.class == class) ws)) ≡ false =
        ap (λ b. not b && nat_le most (length (filter (λ v. v.class == class) ws))) (sym (ne_eqb class 8 traffic)) ∙ f
        in grind (arith, nat_tests)

    by : (j : ℕ) → (j ≡ class) ⊎ (j ≢ class)
        → length (filter (λ v. v.class == j) (ws ++ more ∷ [])) ≤ cond (j == 8) 1 most
    by j (inl e) =
        let one = ap length (of_class-push j ws more
        ∙ ap (λ zs. of_class j ws ++ zs) (of_class-own j more [] (sym e))) in
        let n = of_class-length j (ws ++ more ∷ []) in
        let m = of_class-length j ws in
        let r : length (filter (λ v. v.class == j) ws) < most =
        subst (λ (k : ℕ). length (filter (λ v. v.class == k) ws) < most) (sym e) room in
        let b : cond (j == 8) 1 most ≡ most = ap (λ t. cond t 1 most) (ne_eqb j 8 (λ s. traffic (sym e ∙ s))) in
        omega (arith, one, n, m, r, b, length-append (of_class j ws) (item ∷ []))
    by j (inr o) =
        let same = ap length (of_class-push j ws more
        ∙ ap (λ zs. of_class j ws ++ zs) (of_class-other j more [] o) ∙ append-nil (of_class j ws)) in
        let n = of_class-length j (ws ++ more ∷ []) in
        let m = of_class-length j ws in
        omega (arith, same, n, m, w j)

-- a copy of a frame was queued, or was not
pub copied : (queues : Queues) (most class : ℕ) (item : Item) (gets : Bool) (ws : List Waiting) → class < 8
    → AreClassed ws → AreWithin queues most ws → (gets ≡ true → is_full_by queues most class ws ≡ false)
    → Grows queues most class item gets ws (ws ++ cond gets (record { class = class; item = item } ∷ []) [])
copied queues most class item true ws l a w f = record {
  kept = by_class-push ws (record { class = class; item = item }) (omega (arith, l))
      ∙ ap (λ b. cond b (put_alone item (by_class ws)) (put_in class item (by_class ws)))
      (sym (ne_eqb class 8 (λ e. absurd (omega (arith, l, e)))));
  classed = All-append IsClassed ws (record { class = class; item = item } ∷ []) a (inl l, tt);
  within = within-more queues most class item ws l w (f refl);
}
copied queues most class item false ws l a w f = stays queues most class item ws (ws ++ []) (append-nil ws) a w

-- a newer BPDU has taken the place of the others, or has not
replaced : (most : ℕ) (item : Item) (gets : Bool) (ws : List Waiting) → item.mark ≡ None
    → AreClassed ws → AreWithin PerClass most ws
    → Grows PerClass most 8 item gets ws (cond gets (spared ws) ws ++ cond gets (bpdu item ∷ []) [])
replaced most item true ws unmarked a w = record {
  kept = by_class-own ws item a;
  classed = All-append IsClassed (spared ws) (bpdu item ∷ []) (All-passed IsClassed (λ v. not (is_own v)) ws a)
      (inr (ap (λ m. not (is_some m)) unmarked), tt);
  within = λ j. by j (cases_eq j 8);
}
  where
    by : (j : ℕ) → (j ≡ 8) ⊎ (j ≢ 8)
        → length (filter (λ v. v.class == j) (spared ws ++ bpdu item ∷ [])) ≤ cond (j == 8) 1 most
    by j (inl e) =
        subst (λ (k : ℕ). length (filter (λ v. v.class == k) (spared ws ++ bpdu item ∷ [])) ≤ cond (k == 8) 1 most)
        (sym e)
        (let one = ap length (replaced-own ws item a) in
        let n = of_class-length 8 (spared ws ++ bpdu item ∷ []) in
        omega (arith, one, n))
    by j (inr o) =
        let same = ap length (replaced-other j ws item o) in
        let n = of_class-length j (spared ws ++ bpdu item ∷ []) in
        let m = of_class-length j ws in
        omega (arith, same, n, m, w j)
replaced most item false ws unmarked a w = stays PerClass most 8 item ws (ws ++ []) (append-nil ws) a w

-- a BPDU of the bridge was queued, or was not
pub own_queued_at : (queues : Queues) (most : ℕ) (item : Item) (gets : Bool) (ws : List Waiting) → item.mark ≡ None
    → AreClassed ws → AreWithin queues most ws → (gets ≡ true → is_full_by queues most (own_class queues) ws ≡ false)
    → Grows queues most (own_class queues) item gets ws
    (cond gets (without_replaced queues ws) ws ++ cond gets (record { class = own_class queues; item = item } ∷ []) [])
own_queued_at PerPort most item true ws unmarked a w f = copied PerPort most 7 item true ws (omega arith) a w f
own_queued_at PerPort most item false ws unmarked a w f = copied PerPort most 7 item false ws (omega arith) a w f
own_queued_at PerClass most item gets ws unmarked a w f = replaced most item gets ws unmarked a w

-- An item that leaves.

fewer-passed : (f : Waiting → Bool) (h : ℕ) (ws : List Waiting)
    → length (filter f (without h ws)) ≤ length (filter f ws)
fewer-passed f h [] = omega arith
fewer-passed f h (w ∷ ws) =
    elim (w.class == h) as (λ b. length (filter f (cond b ws (w ∷ without h ws))) ≤ length (filter f (w ∷ ws))) [
      | true ↦ more (f w)
      | false ↦ both (f w) (fewer-passed f h ws)
    ]
  where
    more : (b : Bool) → length (filter f ws) ≤ length (cond b (w ∷ filter f ws) (filter f ws))
    more true = omega arith
    more false = omega arith

    both : (b : Bool) → length (filter f (without h ws)) ≤ length (filter f ws)
        → length (cond b (w ∷ filter f (without h ws)) (filter f (without h ws)))
        ≤ length (cond b (w ∷ filter f ws) (filter f ws))
    both true l = omega (arith, l)
    both false l = l

fewer : (h : ℕ) (ws : List Waiting) → length (without h ws) ≤ length ws
fewer h [] = omega arith
fewer h (w ∷ ws) =
    elim (w.class == h) as (λ b. length (cond b ws (w ∷ without h ws)) ≤ length (w ∷ ws))
    [ true ↦ omega arith | false ↦ omega (arith, fewer h ws) ]

pub within-without : (queues : Queues) (most h : ℕ) (ws : List Waiting) → AreWithin queues most ws
    → AreWithin queues most (without h ws)
within-without PerPort most h ws w = omega (arith, w, fewer h ws)
within-without PerClass most h ws w = λ j. let l = w j in let f = fewer-passed (λ v. v.class == j) h ws in omega
    (arith, l, f)

-- Full queues.

-- a queue is full of the items by class if and only if it is full of the items
pub full_by_class : (queues : Queues) (most class : ℕ) (ws : List Waiting) → class < 9 → AreClassed ws
    → is_full_with queues most class (by_class ws) ≡ is_full_by queues most class ws
full_by_class PerPort most class ws l a = ap (nat_le most) (number_by_class ws (below_nine ws a))
full_by_class PerClass most class ws l a =
    let z : 0 + class ≡ class = omega arith in
    ap (λ n. not (class == 8) && nat_le most n)
    (ap length (get_class (λ j. of_class j ws) 9 0 class l ∙ ap (λ j. of_class j ws) z) ∙ of_class-length class ws)

-- there are far fewer than 65,536 items
pub few_wait : (queues : Queues) (most : ℕ) (ws : List Waiting) → AreClassed ws → AreWithin queues most ws
    → most ≤ 4096 → length ws < 65536
few_wait PerPort most ws a w m = omega (arith, w, m)
few_wait PerClass most ws a w m =
    let n = number_by_class ws (below_nine ws a) in
    omega (arith, n, m, each 0, each 1, each 2, each 3, each 4, each 5, each 6, each 7, each 8)
  where
    each : (j : ℕ) → length (of_class j ws) ≤ cond (j == 8) 1 most
    each j = let l = w j in let n = of_class-length j ws in omega (arith, l, n)

-- Replaced BPDUs.

own-passed : (ws : List Waiting) → AreClassed ws → filter (λ w. w.class == 8) ws ≡ filter is_own ws
own-passed [] a = refl
own-passed (w ∷ ws) a =
    ap (λ b. cond b (w ∷ filter (λ v. v.class == 8) ws) (filter (λ v. v.class == 8) ws)) (same a.0)
    ∙ ap (λ zs. cond (is_own w) (w ∷ zs) zs) (own-passed ws a.1)
  where
    same : IsClassed w → (w.class == 8) ≡ is_own w
    same (inl l) = let n = ne_eqb w.class 8 (λ e. absurd (omega (arith, l, e))) in
        n ∙ sym (ap (λ b. b && not (is_some w.item.mark)) n)
    same (inr h) = and-left (w.class == 8) (not (is_some w.item.mark)) h ∙ sym h

-- the BPDU in the place of its own is the one that a newer one replaces
pub older_is : (queues : Queues) (most p : ℕ) (ws : List Waiting) → AreClassed ws → AreWithin queues most ws
    → map {B = ℕ × Item} (λ item. (p, item)) (option_to_list (older_in queues (by_class ws)))
    ≡ map {B = ℕ × Item} (λ w. (p, w.item)) (replaced_in queues ws)
older_is PerPort most p ws a w = refl
older_is PerClass most p ws a w =
    ap (λ (zs : List Waiting). map {B = ℕ × Item} (λ item. (p, item))
    (option_to_list (slice_get (map (λ v. v.item) zs) 0)))
    (own-passed ws a)
    ∙ one (filter is_own ws) (let l = w 8 in let e = ap length (own-passed ws a) in omega (arith, l, e))
  where
    one : (zs : List Waiting) → length zs ≤ 1
        → map {B = ℕ × Item} (λ item. (p, item)) (option_to_list (slice_get (map (λ v. v.item) zs) 0)) ≡ map
        {B = ℕ × Item} (λ v. (p, v.item)) zs
    one [] l = refl
    one (z ∷ []) l = refl
    one (z ∷ y ∷ zs) l = absurd (omega (arith, l))
