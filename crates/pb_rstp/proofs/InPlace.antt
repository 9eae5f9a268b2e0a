-- Loops that change each port of a list in place.
use Rattle.std.proofs.Common.{◌≡◌, ℕ, ◌+◌, ◌<◌, ◌≤◌, List, [], ◌∷◌, ◌++◌, refl, sym, ap, ap₂, ◌∙◌, map, length, take}
use Rattle.std.proofs.Common.{drop, set, get_or, append-nil, arith}
use Rattle.std.proofs.lemmas.List.{get_or_default, get_or-map, length-map, take_all, drop_all, take_more, take_more_set}
use Rattle.std.proofs.lemmas.List.Edits.{map_over_more}
use Rattle.pb_rstp.specs.Machine.{moving, moved_by}
use Rattle.pb_rstp.specs.Settling.{befores, nows}
use Rattle.pb_rstp.specs.declared.moving.Moving.{Moving}
use Rattle.pb_rstp.specs.declared.port.Port.{Port}

-- the first i ports are changed, and the others are as before
abbrev pub HaveChanged : (Moving → Moving) → List Moving → ℕ → List Moving → Type 0
HaveChanged change before i after = after ≡ map change (take i before) ++ drop i before

-- after one more port is changed, one more of them is
pub change_more : (change : Moving → Moving) (before after : List Moving) (i : ℕ) (d new : Moving) → i < length before
    → i < length after → HaveChanged change before i after → new ≡ change (get_or after i d)
    → HaveChanged change before (i + 1) (set after i new)
change_more change before after i d new within there changed is =
    ap (λ m. set after i m) is
    ∙ map_over_more change before after i (get_or after i d) within changed
    (get_or_default after i d (get_or after i d) there)

-- after the last port is changed, all are
pub change_all : (change : Moving → Moving) (before after : List Moving) (i : ℕ) → length before ≤ i
    → HaveChanged change before i after → after ≡ map change before
change_all change before after i past changed =
    changed
    ∙ ap₂ (λ front back. map change front ++ back) (take_all i before past) (drop_all i before past)
    ∙ append-nil (map change before)

-- a port that begins a call with this change
abbrev pub begun : (Port → Port) → Moving → Moving
begun change p = moving change p.now

-- ports that begin a call are moved from what they are
pub begun_all : (change : Port → Port) (ports : List Moving) → map (begun change) ports ≡ moved_by change (nows ports)
begun_all change [] = refl
begun_all change (p ∷ ps) = ap (λ ms. moving change p.now ∷ ms) (begun_all change ps)

-- a port that is again as it was
abbrev pub undone : Moving → Moving
undone p = record { was = p.was; now = p.was }

-- ports that are again as they were
pub undone_all : (ports : List Moving) → nows (map undone ports) ≡ befores ports
undone_all [] = refl
undone_all (p ∷ ps) = ap (λ qs. p.was ∷ qs) (undone_all ps)

-- Loops that write a list anew from the ports.

-- after one more is written, one more of the list is as it has to be
pub write_more : {X : Type 0} (written wanted : List X) (i : ℕ) (new : X) → i < length written → i < length wanted
    → get_or wanted i new ≡ new → take i written ≡ take i wanted
    → take (i + 1) (set written i new) ≡ take (i + 1) wanted
write_more written wanted i new within there is same =
    take_more_set written i new within
    ∙ ap₂ (λ front x. front ++ x ∷ []) same (sym is)
    ∙ sym (take_more wanted i new there)

-- after the last is written, all is as it has to be
pub write_all : {X : Type 0} (written wanted : List X) (i : ℕ) → length written ≤ i → length wanted ≤ i
    → take i written ≡ take i wanted → written ≡ wanted
write_all written wanted i past end same = sym (take_all i written past) ∙ same ∙ take_all i wanted end

-- a list that is read from the ports is as long as they are
pub length-now : {X : Type 0} (read : Port → X) (ports : List Moving) → length (map read (nows ports)) ≡ length ports
length-now read ports = length-map (nows ports) read ∙ length-map ports (λ (m : Moving). m.now)

-- an entry of a list that is read from the ports
pub read-now : {X : Type 0} (read : Port → X) (ports : List Moving) (i : ℕ) (d : Moving) → i < length ports
    → get_or (map read (nows ports)) i (read (get_or ports i d).now) ≡ read (get_or ports i d).now
read-now read ports i d within =
    let p = get_or ports i d in
    get_or-map read (nows ports) i p.now (read p.now) (omega (arith, length-map ports (λ (m : Moving). m.now)))
    ∙ ap read (get_or-map (λ (m : Moving). m.now) ports i p p.now within
    ∙ ap (λ m. m.now) (get_or_default ports i p d within))

-- a port of a list, as it is now
pub now_at : (ports : List Moving) (i : ℕ) (d : Moving) (p : Port) → i < length ports
    → get_or (nows ports) i p ≡ (get_or ports i d).now
now_at ports i d p within = get_or-map (λ (m : Moving). m.now) ports i d p within

-- lists whose first i ports are the same, and whose next one too, have one more
pub same_more : (these those : List Moving) (i : ℕ) (d e : Moving) → i < length these → i < length those
    → (get_or these i d).now ≡ (get_or those i e).now → take i (nows these) ≡ take i (nows those)
    → take (i + 1) (nows these) ≡ take (i + 1) (nows those)
same_more these those i d e within there is same =
    let p = (get_or these i d).now in
    take_more (nows these) i p (omega (arith, length-map these (λ (m : Moving). m.now)))
    ∙ ap₂ (λ front q. front ++ q ∷ []) same
    (now_at these i d p within ∙ is ∙ sym (now_at those i e p there))
    ∙ sym (take_more (nows those) i p (omega (arith, length-map those (λ (m : Moving). m.now))))

-- lists of the same ports have the same at each place
pub same_at : (these those : List Moving) (i : ℕ) (d e : Moving) → i < length these → i < length those
    → nows these ≡ nows those → (get_or these i d).now ≡ (get_or those i e).now
same_at these those i d e within there same =
    let p = (get_or these i d).now in
    sym (now_at these i d p within) ∙ ap (λ ports. get_or ports i p) same ∙ now_at those i e p there

-- lists of the same ports are as long
pub same_length : (these those : List Moving) → nows these ≡ nows those → length these ≡ length those
same_length these those same =
    sym (length-map these (λ (m : Moving). m.now)) ∙ ap length same ∙ length-map those (λ (m : Moving). m.now)

-- lists of one length whose first ports are the same to the last are the same
pub same_all : (these those : List Moving) (i : ℕ) → length these ≤ i → length those ≤ i
    → take i (nows these) ≡ take i (nows those) → nows these ≡ nows those
same_all these those i past end same =
    write_all (nows these) (nows those) i (omega (arith, length-map these (λ (m : Moving). m.now)))
    (omega (arith, length-map those (λ (m : Moving). m.now))) same
