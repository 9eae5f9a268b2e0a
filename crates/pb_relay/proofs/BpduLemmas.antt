-- BPDUs that are queued one by one. For the loop of `queue_bpdus`.
use Rattle.std.proofs.Common.{ne_eqb, ◌≡◌, ◌≢◌, ℕ, zero, suc, ◌+◌, ◌-◌, ◌<◌, ◌≤◌, Bool, false, cond, not, is_some}
use Rattle.std.proofs.Common.{None, Some, append-nil, Ok, Err, List, [], ◌∷◌, ◌++◌, map, length, take, get_or, refl}
use Rattle.std.proofs.Common.{sym, ap, ◌∙◌}
use Rattle.std.proofs.Common.{subst, arith, eq-eqb}
use Rattle.std.proofs.lemmas.List.{map-append, get_or-map, length-map, take_more}
use Rattle.std.specs.declared.result.Result.{Result}
use Rattle.std.specs.declared.option.Option.{Option}
use Rattle.std.specs.Option.{option_to_list}
use Rattle.std.specs.Prelude.{IfOk, IfSome}
use Rattle.std.proofs.lemmas.Grind.{flat_map-append}
use Rattle.std.specs.List.{AllByRecursion, filter, take-map}
use Rattle.pb_frame.proofs.Lists.{filter-append}
use Rattle.pb_lan.specs.BridgeLists.{own_item}
use Rattle.pb_lan.specs.Queues.{is_refused}
use Rattle.pb_lan.specs.declared.step.Item.{Item}
use Rattle.pb_lan.specs.declared.step.NoRoom.{NoRoom}
use Rattle.pb_bpdu.specs.Layout.{written}
use Rattle.pb_bpdu.specs.declared.bpdu.Bpdu.{Bpdu}
use Rattle.pb_lan.specs.Queues.{own_class}
use Rattle.pb_lan.specs.declared.plan.Queues.{Queues}
use Rattle.pb_lan.specs.declared.plan.Queues.TheVariants.{PerPort, PerClass}
use Rattle.pb_relay.specs.Bpdus.{HasSent, HasQueued, told_queued, told_replaced, word_of, frames_of}
use Rattle.pb_relay.specs.Classes.{placed}
use Rattle.pb_relay.specs.declared.backlog.Capacity.{Capacity}
use Rattle.pb_relay.specs.declared.bpdus.Queued.{Queued}
use Rattle.pb_relay.specs.Copies.{AreCopied, AreSeparate, named, item_with}
use Rattle.pb_relay.specs.Moves.{own_at, own_queued, own_replaced, places_of}
use Rattle.pb_relay.specs.Backlogs.{BacklogView, HasEnqueued, KeepsBacklog, at_place, is_full_at, older_in}
use Rattle.pb_relay.proofs.CopyLemmas.{IsOther, refused-other, refused-own, none_refused, separate_at}
use Rattle.pb_relay.proofs.CopyLemmas.{separate_before, copied_more, uncopied, answered-keeps, answered-count}

-- a port and its frame
abbrev Send : Type 0
Send = ℕ × List ℕ

-- the frame for a port does not depend on frames for other ports
own_at-other : (p : ℕ) (fs : List Send) (f : Send) → f.0 ≢ p → own_at (f ∷ fs) p ≡ own_at fs p
own_at-other p fs f n = ap (λ b. cond b (item_with None 0 f.1) (own_at fs p)) (ne_eqb f.0 p n)

other-place : (p : ℕ) (fs : List Send) (i : ℕ) (d : Send) → i < length fs → AllByRecursion (λ q. q ≢ p) (places_of fs)
    → (get_or fs i d).0 ≢ p
other-place p [] i d l a = absurd (omega arith)
other-place p (f ∷ fs) zero d l a = a.0
other-place p (f ∷ fs) (suc i) d l a = other-place p fs i d (omega arith) a.1

pub own_at-here : (fs : List Send) (i : ℕ) (d : Send) → i < length fs → AreSeparate (places_of fs)
    → own_at fs (get_or fs i d).0 ≡ item_with None 0 (get_or fs i d).1
own_at-here [] i d l a = absurd (omega arith)
own_at-here (f ∷ fs) zero d l a = ap (λ b. cond b (item_with None 0 f.1) (own_at fs f.0)) (eq-eqb f.0 f.0 refl)
own_at-here (f ∷ fs) (suc i) d l a =
    let b : i < length fs = omega arith in
    own_at-other (get_or fs i d).0 fs f (λ e. other-place f.0 fs i d b a.1 (sym e)) ∙ own_at-here fs i d b a.2

-- tests that agree on other ports keep the same frames for other ports
filter-others : (p : ℕ) (g h : ℕ → Bool) → ((q : ℕ) → q ≢ p → g q ≡ h q) → (fs : List Send)
    → AllByRecursion (IsOther p) (places_of fs)
    → filter (λ (s : Send). g s.0) fs ≡ filter (λ (s : Send). h s.0) fs
filter-others p g h e [] a = refl
filter-others p g h e (f ∷ fs) a =
    ap (λ b. cond b (f ∷ filter (λ (s : Send). g s.0) fs) (filter (λ (s : Send). g s.0) fs)) (e f.0 a.0)
    ∙ ap (λ zs. cond (h f.0) (f ∷ zs) zs) (filter-others p g h e fs a.1)

-- the queued frames after one more frame
queued_more : (p : ℕ) (wire : List ℕ) (old new : BacklogView) (place : ℕ) (answer : Result Queued NoRoom)
    (rs : List (ℕ × NoRoom)) (done : List Send)
    → HasSent old place wire answer new → is_refused rs p ≡ false → AllByRecursion (IsOther p) (places_of done)
    → own_queued (rs ++ named p (word_of answer)) (done ++ (p, wire) ∷ []) ≡ own_queued rs done ++ told_queued p answer
queued_more p wire old new place answer rs done h n a =
    ap (map own_item) (filter-append (λ (s : Send). not (is_refused (rs ++ named p (word_of answer)) s.0)) done
    ((p, wire) ∷ []))
    ∙ map-append own_item (filter (λ (s : Send). not (is_refused (rs ++ named p (word_of answer)) s.0)) done)
    (filter (λ (s : Send). not (is_refused (rs ++ named p (word_of answer)) s.0)) ((p, wire) ∷ []))
    ∙ ap (λ zs. map own_item zs ++ map own_item
    (filter (λ (s : Send). not (is_refused (rs ++ named p (word_of answer)) s.0)) ((p, wire) ∷ [])))
    (filter-others p (λ q. not (is_refused (rs ++ named p (word_of answer)) q)) (λ q. not (is_refused rs q))
    (λ q o. ap not (refused-other p q (word_of answer) rs o)) done a)
    ∙ ap (λ b. own_queued rs done ++ map own_item (cond (not b) ((p, wire) ∷ []) []))
    (refused-own p (word_of answer) rs n)
    ∙ ap (λ zs. own_queued rs done ++ zs) (by_answer answer h)
  where
    by_answer : (z : Result Queued NoRoom) → HasSent old place wire z new
        → map own_item (cond (not (is_some (word_of z))) ((p, wire) ∷ []) []) ≡ told_queued p z
    by_answer (Ok queued) k = ap (λ (x : Item). (p, x) ∷ []) (sym k.0)
    by_answer (Err word) k = refl

-- a BPDU that was queued or refused is an item that was queued or refused
has_enqueued : (wire : List ℕ) (old new : BacklogView) (place : ℕ) (answer : Result Queued NoRoom)
    → HasSent old place wire answer new → HasQueued old place wire (word_of answer) new
has_enqueued wire old new place (Ok queued) h = h.2
has_enqueued wire old new place (Err word) h = h

-- at most one item is reported of a port
pub told-few : (p : ℕ) (answer : Result Queued NoRoom) → length (told_queued p answer) ≤ 1
told-few p (Ok queued) = omega arith
told-few p (Err word) = omega arith

pub replaced-few : (p : ℕ) (answer : Result Queued NoRoom) → length (told_replaced p answer) ≤ 1
replaced-few p (Ok queued) = by queued.older
  where
    by : (o : Option Item) → length (map {B = ℕ × Item} (λ item. (p, item)) (option_to_list o)) ≤ 1
    by None = omega arith
    by (Some item) = omega arith
replaced-few p (Err word) = omega arith

-- there is capacity for a BPDU that was replaced
pub older-room : (from to : BacklogView) (place : ℕ) (wire : List ℕ) (answer : Result Queued NoRoom) (n m : ℕ)
    → HasSent from place wire answer to → (from.capacity.queues ≡ PerClass → n < m)
    → IfOk answer (λ queued. IfSome queued.older (λ _. n < m))
older-room from to place wire (Ok queued) n m h l =
    subst (λ (o : Option Item). IfSome o (λ _. n < m)) (sym h.1) (by from.capacity.queues refl)
  where
    some : (o : Option Item) → n < m → IfSome o (λ _. n < m)
    some None k = tt
    some (Some item) k = k

    by : (queues : Queues) → from.capacity.queues ≡ queues
        → IfSome (older_in from.capacity.queues (at_place from place)) (λ _. n < m)
    by PerPort e = subst (λ (z : Queues). IfSome (older_in z (at_place from place)) (λ _. n < m)) (sym e) tt
    by PerClass e = some (older_in from.capacity.queues (at_place from place)) (l e)
older-room from to place wire (Err word) n m h l = tt

-- the replaced BPDUs after one more BPDU was queued, or was not
replaced_more : (p : ℕ) (wire : List ℕ) (first from to : BacklogView) (answer : Result Queued NoRoom)
    (queued replaced : List (ℕ × Item)) → HasSent from (p - 1) wire answer to
    → from.capacity ≡ first.capacity → get_or from.ports (p - 1) [] ≡ get_or first.ports (p - 1) []
    → replaced ≡ own_replaced first.capacity.queues first.ports queued
    → replaced ++ told_replaced p answer
    ≡ own_replaced first.capacity.queues first.ports (queued ++ told_queued p answer)
replaced_more p wire first from to answer queued replaced h same there told =
    ap (λ zs. zs ++ told_replaced p answer) told
    ∙ ap (λ zs. own_replaced first.capacity.queues first.ports queued ++ zs) (by answer h)
    ∙ sym (flat_map-append (λ (q : ℕ × Item). map {B = ℕ × Item} (λ item. (q.0, item))
    (option_to_list (older_in first.capacity.queues (get_or first.ports (q.0 - 1) [])))) queued (told_queued p answer))
  where
    by : (z : Result Queued NoRoom) → HasSent from (p - 1) wire z to
        → told_replaced p z ≡ own_replaced first.capacity.queues first.ports (told_queued p z)
    by (Ok x) k =
        ap (λ o. map {B = ℕ × Item} (λ item. (p, item)) (option_to_list o))
        (k.1 ∙ ap (λ (c : Capacity). older_in c.queues (get_or from.ports (p - 1) [])) same
        ∙ ap (older_in first.capacity.queues) there)
        ∙ sym (append-nil _)
    by (Err word) k = refl

-- a port and its BPDU
abbrev Sent : Type 0
Sent = ℕ × Bpdu

frame-at : (address : List ℕ) (sends : List Sent) (i : ℕ) (d : Sent) → i < length sends
    → get_or (frames_of address sends) i (d.0, written address d.1)
    ≡ ((get_or sends i d).0, written address (get_or sends i d).1)
frame-at address sends i d l = get_or-map (λ (s : Sent). (s.0, written address s.1)) sends i d
    (d.0, written address d.1) l

length-frames : (address : List ℕ) (sends : List Sent) → length (frames_of address sends) ≡ length sends
length-frames address sends = length-map sends (λ (s : Sent). (s.0, written address s.1))

length-places : (fs : List Send) → length (places_of fs) ≡ length fs
length-places fs = length-map fs (λ (s : Send). s.0)

place-at : (address : List ℕ) (sends : List Sent) (i : ℕ) (d : Sent) → i < length sends
    → get_or (places_of (frames_of address sends)) i 0 ≡ (get_or sends i d).0
place-at address sends i d l =
    let n = length-frames address sends in
    get_or-map (λ (s : Send). s.0) (frames_of address sends) i (d.0, written address d.1) 0 (omega arith)
    ∙ ap (λ (s : Send). s.0) (frame-at address sends i d l)

-- the port of a BPDU is 1 to 16
pub bpdu_place : (address : List ℕ) (sends : List Sent) (i : ℕ) (d : Sent) → i < length sends
    → AreSeparate (places_of (frames_of address sends))
    → (1 ≤ (get_or sends i d).0) × ((get_or sends i d).0 ≤ 16)
bpdu_place address sends i d l a =
    let n = length-frames address sends in
    let m = length-places (frames_of address sends) in
    subst (λ (p : ℕ). (1 ≤ p) × (p ≤ 16)) (place-at address sends i d l)
    (separate_at (places_of (frames_of address sends)) i (omega arith) a)

-- one step of the loop: one more BPDU is queued or refused, and is reported
bpdu_more : (first from to : BacklogView) (address : List ℕ) (sends : List Sent) (i : ℕ) (d : Sent)
    (rs : List (ℕ × NoRoom))
    (answer : Result Queued NoRoom) (queued replaced : List (ℕ × Item))
    → i < length sends → AreSeparate (places_of (frames_of address sends))
    → AreCopied first.capacity (own_class first.capacity.queues) (own_at (frames_of address sends)) first.ports
    (take i (places_of (frames_of address sends))) rs from.ports
    → length from.ports ≡ 16 → KeepsBacklog first from → queued ≡ own_queued rs (take i (frames_of address sends))
    → replaced ≡ own_replaced first.capacity.queues first.ports queued
    → HasSent from ((get_or sends i d).0 - 1) (written address (get_or sends i d).1) answer to
    → AreCopied first.capacity (own_class first.capacity.queues) (own_at (frames_of address sends)) first.ports
    (take (i + 1) (places_of (frames_of address sends)))
    (rs ++ named (get_or sends i d).0 (word_of answer)) to.ports
    × (queued ++ told_queued (get_or sends i d).0 answer
    ≡ own_queued (rs ++ named (get_or sends i d).0 (word_of answer)) (take (i + 1) (frames_of address sends)))
    × (replaced ++ told_replaced (get_or sends i d).0 answer
    ≡ own_replaced first.capacity.queues first.ports (queued ++ told_queued (get_or sends i d).0 answer))
bpdu_more first from to address sends i d rs answer queued replaced l a copied count keeps told told_too h =
    let fs = frames_of address sends in
    let ps = places_of fs in
    let x = get_or sends i d in
    let n = length-frames address sends in
    let m = length-places fs in
    let f-at = frame-at address sends i d l in
    let p-at = place-at address sends i d l in
    let few : i < length fs = omega arith in
    let fewer : i < length ps = omega arith in
    let before : AllByRecursion (IsOther x.0) (take i ps) = subst (λ (k : ℕ). AllByRecursion (IsOther k) (take i ps))
    p-at (separate_before ps i fewer a) in
    let here : own_at fs x.0 ≡ item_with None 0 (written address x.1) =
    subst (λ (s : Send). own_at fs s.0 ≡ item_with None 0 s.1) f-at
    (own_at-here fs i (d.0, written address d.1) few a) in
    let class = own_class first.capacity.queues in
    let enqueued : HasEnqueued from (x.0 - 1) (is_full_at from (x.0 - 1) class)
    (placed class (item_with None 0 (written address x.1)) (at_place from (x.0 - 1))) (word_of answer) to =
    subst (λ (c : Capacity). HasEnqueued from (x.0 - 1) (is_full_at from (x.0 - 1) (own_class c.queues))
    (placed (own_class c.queues) (item_with None 0 (written address x.1)) (at_place from (x.0 - 1)))
    (word_of answer) to) keeps.capacity (has_enqueued (written address x.1) from to (x.0 - 1) answer h) in
    let more = copied_more first from to class (own_at fs) (take i ps) rs x.0 (word_of answer) copied before
    (bpdu_place address sends i d l a) count keeps
    (subst (λ (z : Item). HasEnqueued from (x.0 - 1) (is_full_at from (x.0 - 1) class)
    (placed class z (at_place from (x.0 - 1))) (word_of answer) to) (sym here) enqueued) in (
      subst (λ (zs : List ℕ). AreCopied first.capacity (own_class first.capacity.queues) (own_at fs) first.ports zs
          (rs ++ named x.0 (word_of answer))
          to.ports)
          (sym (take_more ps i 0 fewer ∙ ap (λ k. take i ps ++ k ∷ []) p-at)) more,
      ap (λ zs. zs ++ told_queued x.0 answer) told
          ∙ sym (queued_more x.0 (written address x.1) from to (x.0 - 1) answer rs (take i fs) h
          (none_refused x.0 (take i ps) rs copied.refusals.0 before)
          (subst (λ (zs : List ℕ). AllByRecursion (IsOther x.0) zs) (take-map (λ (s : Send). s.0) i fs) before))
          ∙ ap (own_queued (rs ++ named x.0 (word_of answer)))
          (sym (take_more fs i (d.0, written address d.1) few ∙ ap (λ (s : Send). take i fs ++ s ∷ []) f-at)),
      replaced_more x.0 (written address x.1) first from to answer queued replaced h keeps.capacity
          (uncopied first.capacity class (own_at fs) first.ports (take i ps) rs from.ports x.0 copied before
          (bpdu_place address sends i d l a)) told_too,
    )

-- the port of the BPDU at this place is 1 to 16
pub place_of : (address : List ℕ) (sends : List Sent) (i : ℕ) (x : Sent) → i < length sends → x ≡ get_or sends i x
    → AreSeparate (places_of (frames_of address sends)) → (1 ≤ x.0) × (x.0 ≤ 16)
place_of address sends i x l e a = subst (λ (y : Sent). (1 ≤ y.0) × (y.0 ≤ 16)) (sym e)
    (bpdu_place address sends i x l a)

pub one_bpdu : (first from to : BacklogView) (address : List ℕ) (sends : List Sent) (i : ℕ) (x : Sent)
    (rs : List (ℕ × NoRoom))
    (answer : Result Queued NoRoom) (queued replaced : List (ℕ × Item))
    → i < length sends → x ≡ get_or sends i x → AreSeparate (places_of (frames_of address sends))
    → AreCopied first.capacity (own_class first.capacity.queues) (own_at (frames_of address sends)) first.ports
    (take i (places_of (frames_of address sends))) rs from.ports
    → length from.ports ≡ 16 → KeepsBacklog first from → queued ≡ own_queued rs (take i (frames_of address sends))
    → replaced ≡ own_replaced first.capacity.queues first.ports queued
    → HasSent from (x.0 - 1) (written address x.1) answer to
    → AreCopied first.capacity (own_class first.capacity.queues) (own_at (frames_of address sends)) first.ports
    (take (i + 1) (places_of (frames_of address sends)))
    (rs ++ named x.0 (word_of answer)) to.ports
    × (queued ++ told_queued x.0 answer ≡ own_queued (rs ++ named x.0 (word_of answer))
    (take (i + 1) (frames_of address sends)))
    × (replaced ++ told_replaced x.0 answer
    ≡ own_replaced first.capacity.queues first.ports (queued ++ told_queued x.0 answer))
one_bpdu first from to address sends i x rs answer queued replaced l e a copied count keeps told told_too h =
    subst (λ (y : Sent). HasSent from (y.0 - 1) (written address y.1) answer to
    → AreCopied first.capacity (own_class first.capacity.queues) (own_at (frames_of address sends)) first.ports
    (take (i + 1) (places_of (frames_of address sends)))
    (rs ++ named y.0 (word_of answer)) to.ports
    × (queued ++ told_queued y.0 answer ≡ own_queued (rs ++ named y.0 (word_of answer))
    (take (i + 1) (frames_of address sends)))
    × (replaced ++ told_replaced y.0 answer
    ≡ own_replaced first.capacity.queues first.ports (queued ++ told_queued y.0 answer)))
    (sym e) (bpdu_more first from to address sends i x rs answer queued replaced l a copied count keeps told told_too) h

-- queueing one more BPDU changes only the waiting items
pub sent_keeps : (first from to : BacklogView) (place : ℕ) (wire : List ℕ) (answer : Result Queued NoRoom)
    → KeepsBacklog first from
    → HasSent from place wire answer to → KeepsBacklog first to
sent_keeps first from to place wire answer k h =
    answered-keeps first from to place _ _ (word_of answer) k
    (has_enqueued wire from to place answer h)

pub sent_count : (from to : BacklogView) (place : ℕ) (wire : List ℕ) (answer : Result Queued NoRoom)
    → HasSent from place wire answer to
    → length to.ports ≡ length from.ports
sent_count from to place wire answer h =
    answered-count from to place _ _ (word_of answer) (has_enqueued wire from to place answer h)
