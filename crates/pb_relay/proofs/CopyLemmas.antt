-- Copies that are queued port by port. For the loops of `queue_copies` and `queue_bpdus`.
use Rattle.std.proofs.Common.{◌≡◌, ◌≢◌, ℕ, zero, suc, ◌+◌, ◌-◌, ◌<◌, ◌≤◌, Bool, true, false, cond, not, ◌&&◌, ◌||◌}
use Rattle.std.proofs.Common.{is_some, Some, None, List, [], ◌∷◌, ◌++◌, map, length, take, get_or, set, ◌==◌}
use Rattle.std.proofs.Common.{inl, inr, if◌then◌else◌, refl, sym, ap, ◌∙◌, subst, arith, eq-eqb}
use Rattle.std.proofs.Math.Bool.{or-false}
use Rattle.std.proofs.lemmas.Bool.{cases_eq, ne_eqb}
use Rattle.std.proofs.lemmas.List.Folds.{list_any-append}
use Rattle.std.proofs.lemmas.List.{get_or-set_same, get_or-set_other, length-set, map-append, set-get_or}
use Rattle.std.specs.declared.option.Option.{Option}
use Rattle.std.specs.List.{AllByRecursion, filter, list_any}
use Rattle.pb_frame.proofs.Lists.{All-append, filter-append, All-passed}
use Rattle.pb_lan.specs.PortSets.{AreAscending}
use Rattle.pb_lan.specs.Queues.{is_refused}
use Rattle.pb_lan.specs.BridgeLists.{AreRefused, is_named_full, is_full_word}
use Rattle.pb_lan.specs.declared.step.Item.{Item}
use Rattle.pb_lan.specs.declared.step.NoRoom.{NoRoom}
use Rattle.pb_lan.specs.declared.step.NoRoom.TheVariants.{Full, Memory}
use Rattle.pb_relay.specs.Classes.{placed}
use Rattle.pb_relay.specs.Backlogs.{BacklogView, at_place, is_full_at, is_full_in, HasEnqueued, KeepsBacklog}
use Rattle.pb_relay.specs.declared.backlog.Capacity.{Capacity}
use Rattle.pb_relay.specs.Copies.{AreCopied, AreSeparate, with_copy, named}

abbrev pub IsOther : ℕ → ℕ → Type 0
IsOther p q = q ≢ p

pub others-none : (p : ℕ) (xs : List ℕ) → AllByRecursion (IsOther p) xs → list_any (λ q. q == p) xs ≡ false
others-none p [] a = refl
others-none p (x ∷ xs) a = ap (λ b. b || list_any (λ q. q == p) xs) (ne_eqb x p a.0) ∙ others-none p xs a.1

any-names : (p : ℕ) (rs : List (ℕ × NoRoom)) → is_refused rs p ≡ list_any (λ q. q == p) (map (λ r. r.0) rs)
any-names p [] = refl
any-names p (r ∷ rs) = ap (λ b. (r.0 == p) || b) (any-names p rs)

-- a port that was not tried is not refused
pub none_refused : (p : ℕ) (done : List ℕ) (rs : List (ℕ × NoRoom)) → map (λ r. r.0) rs ≡ filter (is_refused rs) done
    → AllByRecursion (IsOther p) done → is_refused rs p ≡ false
none_refused p done rs e a =
    any-names p rs ∙ ap (list_any (λ q. q == p)) e
    ∙ others-none p (filter (is_refused rs) done) (All-passed (IsOther p) (is_refused rs) done a)

-- a port that is not refused is not named full
pub none_full : (p : ℕ) (rs : List (ℕ × NoRoom)) → is_refused rs p ≡ false → is_named_full rs p ≡ false
none_full p [] h = refl
none_full p (r ∷ rs) h =
    elim (r.0 == p) as (λ b. (b || is_refused rs p) ≡ false → ((b && is_full_word r.1) || is_named_full rs p) ≡ false)
    [ true ↦ λ e. cc | false ↦ λ e. none_full p rs e ] h

-- one more entry for a port says nothing of other ports
pub refused-other : (p q : ℕ) (word : Option NoRoom) (rs : List (ℕ × NoRoom)) → q ≢ p
    → is_refused (rs ++ named p word) q ≡ is_refused rs q
refused-other p q None rs n = list_any-append (λ r. r.0 == q) rs [] ∙ or-false (is_refused rs q)
refused-other p q (Some word) rs n =
    list_any-append (λ r. r.0 == q) rs ((p, word) ∷ [])
    ∙ ap (λ b. is_refused rs q || (b || false)) (ne_eqb p q (λ e. n (sym e))) ∙ or-false (is_refused rs q)

pub refused-own : (p : ℕ) (word : Option NoRoom) (rs : List (ℕ × NoRoom)) → is_refused rs p ≡ false
    → is_refused (rs ++ named p word) p ≡ is_some word
refused-own p None rs h = list_any-append (λ r. r.0 == p) rs [] ∙ ap (λ b. b || false) h
refused-own p (Some word) rs h =
    list_any-append (λ r. r.0 == p) rs ((p, word) ∷ []) ∙ ap (λ b. b || ((p == p) || false)) h
    ∙ ap (λ b. b || false) (eq-eqb p p refl)

full-other : (p q : ℕ) (word : Option NoRoom) (rs : List (ℕ × NoRoom)) → q ≢ p
    → is_named_full (rs ++ named p word) q ≡ is_named_full rs q
full-other p q None rs n = list_any-append (λ r. r.0 == q && is_full_word r.1) rs [] ∙ or-false (is_named_full rs q)
full-other p q (Some word) rs n =
    list_any-append (λ r. r.0 == q && is_full_word r.1) rs ((p, word) ∷ [])
    ∙ ap (λ b. is_named_full rs q || ((b && is_full_word word) || false)) (ne_eqb p q (λ e. n (sym e)))
    ∙ or-false (is_named_full rs q)

abbrev pub is_full_answer : Option NoRoom → Bool
is_full_answer None = false
is_full_answer (Some word) = is_full_word word

full-own : (p : ℕ) (word : Option NoRoom) (rs : List (ℕ × NoRoom)) → is_refused rs p ≡ false
    → is_named_full (rs ++ named p word) p ≡ is_full_answer word
full-own p None rs h = list_any-append (λ r. r.0 == p && is_full_word r.1) rs []
    ∙ ap (λ b. b || false) (none_full p rs h)
full-own p (Some word) rs h =
    list_any-append (λ r. r.0 == p && is_full_word r.1) rs ((p, word) ∷ [])
    ∙ ap (λ b. b || (((p == p) && is_full_word word) || false)) (none_full p rs h)
    ∙ ap (λ b. (b && is_full_word word) || false) (eq-eqb p p refl) ∙ or-false (is_full_word word)

filter-same : (p : ℕ) (g h : ℕ → Bool) → ((q : ℕ) → q ≢ p → g q ≡ h q) → (xs : List ℕ) → AllByRecursion (IsOther p) xs
    → filter g xs ≡ filter h xs
filter-same p g h e [] a = refl
filter-same p g h e (x ∷ xs) a = ap (λ b. cond b (x ∷ filter g xs) (filter g xs)) (e x a.0)
    ∙ ap (λ zs. cond (h x) (x ∷ zs) zs) (filter-same p g h e xs a.1)

names-own : (p : ℕ) (word : Option NoRoom) → map (λ r. r.0) (named p word) ≡ cond (is_some word) (p ∷ []) []
names-own p None = refl
names-own p (Some word) = refl

refusals-others : (p : ℕ) (word : Option NoRoom) (full : ℕ → Bool) (rs : List (ℕ × NoRoom)) (xs : List ℕ)
    → AllByRecursion (IsOther p) xs
    → AllByRecursion (λ q. full q ≡ is_named_full rs q) xs
    → AllByRecursion (λ q. full q ≡ is_named_full (rs ++ named p word) q) xs
refusals-others p word full rs [] a h = tt
refusals-others p word full rs (x ∷ xs) a h =
    (h.0 ∙ sym (full-other p x word rs a.0), refusals-others p word full rs xs a.1 h.1)

refusals-more : (p : ℕ) (word : Option NoRoom) (full : ℕ → Bool) (done : List ℕ) (rs : List (ℕ × NoRoom))
    → AreRefused full done rs → AllByRecursion (IsOther p) done
    → full p ≡ is_full_answer word → AreRefused full (done ++ p ∷ []) (rs ++ named p word)
refusals-more p word full done rs h a f =
    let n = none_refused p done rs h.0 a in
    let own = refused-own p word rs n in (
      map-append (λ r. r.0) rs (named p word)
          ∙ ap (λ zs. zs ++ map (λ r. r.0) (named p word))
          (h.0 ∙ filter-same p (is_refused rs) (is_refused (rs ++ named p word))
          (λ q o. sym (refused-other p q word rs o)) done a)
          ∙ ap (λ zs. filter (is_refused (rs ++ named p word)) done ++ zs)
          (names-own p word ∙ ap (λ b. cond b (p ∷ []) []) (sym own))
          ∙ sym (filter-append (is_refused (rs ++ named p word)) done (p ∷ [])),
      All-append (λ q. full q ≡ is_named_full (rs ++ named p word) q) done (p ∷ [])
          (refusals-others p word full rs done a h.1) (f ∙ sym (full-own p word rs n), tt),
    )

answered-full : (from to : BacklogView) (place : ℕ) (full : Bool) (qs : List (List Item)) (word : Option NoRoom)
    → HasEnqueued from place full qs word to → full ≡ is_full_answer word
answered-full from to place full qs None h = h.0
answered-full from to place full qs (Some Full) h = h.0
answered-full from to place full qs (Some Memory) h = h.0

-- the items of a port with the copy, if it was queued
abbrev with_answer : ℕ → Item → Option NoRoom → List (List Item) → List (List Item)
with_answer class item word qs = if not (is_some word) then placed class item qs else qs

answered-copy : (from to : BacklogView) (place : ℕ) (full : Bool) (qs : List (List Item)) (word : Option NoRoom)
    → HasEnqueued from place full qs word to
    → to.ports ≡ set from.ports place (cond (not (is_some word)) qs (at_place from place))
answered-copy from to place full qs None h = ap (λ (o : BacklogView). o.ports) h.1
answered-copy from to place full qs (Some Full) h =
    ap (λ (o : BacklogView). o.ports) h.1 ∙ sym (set-get_or from.ports place [])
answered-copy from to place full qs (Some Memory) h =
    ap (λ (o : BacklogView). o.ports) h.1 ∙ sym (set-get_or from.ports place [])

pub answered-keeps : (first from to : BacklogView) (place : ℕ) (full : Bool) (qs : List (List Item))
    (word : Option NoRoom)
    → KeepsBacklog first from → HasEnqueued from place full qs word to → KeepsBacklog first to
answered-keeps first from to place full qs None k h = record {
  capacity = ap (λ (o : BacklogView). o.capacity) h.1 ∙ k.capacity;
  is_kept = ap (λ (o : BacklogView). o.is_kept) h.1 ∙ k.is_kept;
}
answered-keeps first from to place full qs (Some Full) k h = subst (KeepsBacklog first) (sym h.1) k
answered-keeps first from to place full qs (Some Memory) k h = subst (KeepsBacklog first) (sym h.1) k

-- queueing a copy keeps the number of ports
pub answered-count : (from to : BacklogView) (place : ℕ) (full : Bool) (qs : List (List Item)) (word : Option NoRoom)
    → HasEnqueued from place full qs word to → length to.ports ≡ length from.ports
answered-count from to place full qs word h =
    ap length (answered-copy from to place full qs word h) ∙ length-set _ _ _

-- a port that was not tried has the items that it had
pub uncopied : (capacity : Capacity) (class : ℕ) (item_at : ℕ → Item) (old : List (List (List Item))) (done : List ℕ)
    (rs : List (ℕ × NoRoom)) (new : List (List (List Item))) (p : ℕ)
    → AreCopied capacity class item_at old done rs new → AllByRecursion (IsOther p) done → (1 ≤ p) × (p ≤ 16)
    → get_or new (p - 1) [] ≡ get_or old (p - 1) []
uncopied capacity class item_at old done rs new p h a l =
    let l0 : 1 ≤ p = l.0 in
    let l1 : p ≤ 16 = l.1 in
    let s : p - 1 + 1 ≡ p = omega arith in
    let none : list_any (λ x. x == p - 1 + 1) done ≡ false =
    subst (λ (k : ℕ). list_any (λ x. x == k) done ≡ false) (sym s) (others-none p done a) in
    h.copies (p - 1) (omega arith)
    ∙ ap (λ b. cond (b && not (is_refused rs (p - 1 + 1)))
    (placed class (item_at (p - 1 + 1)) (get_or old (p - 1) [])) (get_or old (p - 1) [])) none

-- one step of the loop: one more port has its copy or is refused
copied_at : (capacity : Capacity) (class : ℕ) (item_at : ℕ → Item) (old : List (List (List Item))) (done : List ℕ)
    (rs : List (ℕ × NoRoom)) (new : List (List (List Item))) (p : ℕ) (word : Option NoRoom)
    → AreCopied capacity class item_at old done rs new → AllByRecursion (IsOther p) done → (1 ≤ p) × (p ≤ 16)
    → length new ≡ 16
    → is_full_in capacity class (get_or new (p - 1) []) ≡ is_full_answer word
    → AreCopied capacity class item_at old (done ++ p ∷ []) (rs ++ named p word)
    (set new (p - 1) (with_answer class (item_at p) word (get_or new (p - 1) [])))
copied_at capacity class item_at old done rs new p word h a l n full = record {
  refusals = refusals-more p word (λ port. is_full_in capacity class (get_or old (port - 1) [])) done rs h.refusals a
      (ap (is_full_in capacity class) (sym same) ∙ full);
  copies = λ r b. at r b;
}
  where
    after : List (List Item)
    after = with_answer class (item_at p) word (get_or new (p - 1) [])

    same : get_or new (p - 1) [] ≡ get_or old (p - 1) []
    same = uncopied capacity class item_at old done rs new p h a l

    here : (r : ℕ) → r < 16 → r + 1 ≡ p
        → get_or (set new (p - 1) after) r [] ≡ with_copy class item_at (done ++ p ∷ []) (rs ++ named p word) p
        (get_or old r [])
    here r b f =
        let d : p - 1 ≡ r = omega arith in
        let own = refused-own p word rs (none_refused p done rs h.refusals.0 a) in
        let any : list_any (λ x. x == p) (done ++ p ∷ []) ≡ true =
        list_any-append (λ x. x == p) done (p ∷ []) ∙ ap (λ b. b || ((p == p) || false)) (others-none p done a)
        ∙ ap (λ b. b || false) (eq-eqb p p refl) in
        ap (λ k. get_or (set new k after) r []) d
        ∙ get_or-set_same new r after [] (omega arith)
        ∙ ap (with_answer class (item_at p) word) (same ∙ ap (λ k. get_or old k []) d)
        ∙ ap (λ b. cond (not b) (placed class (item_at p) (get_or old r [])) (get_or old r [])) (sym own)
        ∙ ap (λ b. cond (b && not (is_refused (rs ++ named p word) p)) (placed class (item_at p) (get_or old r []))
        (get_or old r [])) (sym any)

    other : (r : ℕ) → r < 16 → r + 1 ≢ p
        → get_or (set new (p - 1) after) r [] ≡ with_copy class item_at (done ++ p ∷ []) (rs ++ named p word) (r + 1)
        (get_or old r [])
    other r b f =
        let l0 : 1 ≤ p = l.0 in
        let d : r ≢ p - 1 = omega arith in
        let any : list_any (λ x. x == r + 1) (done ++ p ∷ []) ≡ list_any (λ x. x == r + 1) done =
        list_any-append (λ x. x == r + 1) done (p ∷ []) ∙ ap (λ b. list_any (λ x. x == r + 1) done || (b || false))
        (ne_eqb p (r + 1) (λ z. f (sym z))) ∙ or-false (list_any (λ x. x == r + 1) done) in
        get_or-set_other new (p - 1) r after [] d ∙ h.copies r b
        ∙ ap (λ b. cond (b && not (is_refused rs (r + 1))) (placed class (item_at (r + 1)) (get_or old r []))
        (get_or old r [])) (sym any)
        ∙ ap (λ b. cond (list_any (λ x. x == r + 1) (done ++ p ∷ []) && not b)
        (placed class (item_at (r + 1)) (get_or old r [])) (get_or old r []))
        (sym (refused-other p (r + 1) word rs f))

    at : (r : ℕ) → r < 16 → get_or (set new (p - 1) after) r [] ≡ with_copy class item_at (done ++ p ∷ [])
        (rs ++ named p word) (r + 1) (get_or old r [])
    at r b = elim (cases_eq (r + 1) p) [
      | inl f ↦ here r b f
          ∙ ap (λ k. with_copy class item_at (done ++ p ∷ []) (rs ++ named p word) k (get_or old r [])) (sym f)
      | inr f ↦ other r b f
    ]

pub copied_more : (first from to : BacklogView) (class : ℕ) (item_at : ℕ → Item) (done : List ℕ)
    (rs : List (ℕ × NoRoom)) (p : ℕ) (word : Option NoRoom)
    → AreCopied first.capacity class item_at first.ports done rs from.ports → AllByRecursion (IsOther p) done
    → (1 ≤ p) × (p ≤ 16)
    → length from.ports ≡ 16 → KeepsBacklog first from
    → HasEnqueued from (p - 1) (is_full_at from (p - 1) class) (placed class (item_at p) (at_place from (p - 1))) word
    to
    → AreCopied first.capacity class item_at first.ports (done ++ p ∷ []) (rs ++ named p word) to.ports
copied_more first from to class item_at done rs p word h a l n k w =
    subst (AreCopied first.capacity class item_at first.ports (done ++ p ∷ []) (rs ++ named p word))
    (sym (answered-copy from to (p - 1) _ _ word w))
    (copied_at first.capacity class item_at first.ports done rs from.ports p word h a l n
    (ap (λ (c : Capacity). is_full_in c class (at_place from (p - 1))) (sym k.capacity)
    ∙ answered-full from to (p - 1) _ _ word w))

-- each of the ports is 1 to 16
pub separate_at : (ps : List ℕ) (i : ℕ) → i < length ps → AreSeparate ps → (1 ≤ get_or ps i 0) × (get_or ps i 0 ≤ 16)
separate_at [] i l a = absurd (omega arith)
separate_at (p ∷ ps) zero l a = a.0
separate_at (p ∷ ps) (suc i) l a = separate_at ps i (omega arith) a.2

other-at : (p : ℕ) (ps : List ℕ) (i : ℕ) → i < length ps → AllByRecursion (λ q. q ≢ p) ps → p ≢ get_or ps i 0
other-at p [] i l a = absurd (omega arith)
other-at p (q ∷ ps) zero l a = λ e. a.0 (sym e)
other-at p (q ∷ ps) (suc i) l a = other-at p ps i (omega arith) a.1

-- a port was not among those before it
pub separate_before : (ps : List ℕ) (i : ℕ) → i < length ps → AreSeparate ps
    → AllByRecursion (IsOther (get_or ps i 0)) (take i ps)
separate_before [] i l a = absurd (omega arith)
separate_before (p ∷ ps) zero l a = tt
separate_before (p ∷ ps) (suc i) l a = (other-at p ps i (omega arith) a.1, separate_before ps i (omega arith) a.2)

-- a port is none of those that ascend from it
apart : (p low : ℕ) (ps : List ℕ) → p ≤ low → AreAscending low ps → AllByRecursion (λ q. q ≢ p) ps
apart p low [] l a = tt
apart p low (q ∷ ps) l a = let above : low < q =
    a.0 in (omega (arith, l, above), apart p q ps (omega (arith, l, above)) a.2)

pub separate_of : (low : ℕ) (ps : List ℕ) → AreAscending low ps → AreSeparate ps
separate_of low [] a = tt
separate_of low (p ∷ ps) a = let above : low < p =
    a.0 in ((omega (arith, above), a.1), apart p p ps (omega arith) a.2, separate_of p ps a.2)

-- each of the ports that ascend is above the lower bound
above-at : (low : ℕ) (ps : List ℕ) (i : ℕ) → i < length ps → AreAscending low ps → low < get_or ps i 0
above-at low [] i l a = absurd (omega (arith, l))
above-at low (p ∷ ps) zero l a = a.0
above-at low (p ∷ ps) (suc i) l a =
    let above : low < p = a.0 in
    let rest : p < get_or ps i 0 = above-at p ps i (omega (arith, l)) a.2 in
    omega (arith, above, rest)

pub ascending_before : (low : ℕ) (ps : List ℕ) (i : ℕ) → i < length ps → AreAscending low ps
    → AllByRecursion (λ q. q < get_or ps i 0) (take i ps)
ascending_before low [] i l a = absurd (omega (arith, l))
ascending_before low (p ∷ ps) zero l a = tt
ascending_before low (p ∷ ps) (suc i) l a =
    (above-at p ps i (omega (arith, l)) a.2, ascending_before p ps i (omega (arith, l)) a.2)

-- a port has at most one entry
pub named-few : (p : ℕ) (word : Option NoRoom) → length (named p word) ≤ 1
named-few p None = omega arith
named-few p (Some word) = omega arith
