-- Lists without repetition, and such a list with one more thing.
use Rattle.std.proofs.Common.{◌≡◌, ℕ, ◌+◌, ◌≤◌, Bool, true, false, List, [], ◌∷◌, ◌++◌, length, map, take}
use Rattle.std.proofs.Common.{Some, Bor, refl, sym, ap, subst, ◌∙◌, arith}
use Rattle.std.specs.Prelude.{slice_get, codes}
use Rattle.std.proofs.lemmas.Bool.{or_parts, or_from}
use Rattle.std.proofs.lemmas.List.{map-append, length-map, take_more, take_all, take-map}
use Rattle.std.proofs.lemmas.Option.{slice_get_within, get_or_from_slice_get, slice_get-map}
use Rattle.std.specs.Option.{option_map}
use Rattle.std.specs.List.{IsDistinct, list_any, flat_map}
use Rattle.pb_frame.specs.Admission.{same}
use Rattle.pb_frame.proofs.Lists.{All-append, false-unless, true-false, same-one, same-self}
use Rattle.pb_lan.specs.Plans.{is_same_port}
use Rattle.pb_lan.proofs.Distinctness.{list_any-map}
use Rattle.toml.specs.Data.{Members}
use Rattle.toml.specs.View.{table_view}
use Rattle.pb_service.specs.declared.section.Section.{Section}
use Rattle.pb_service.specs.declared.section.Section.TheVariants.{Bridge, Link, Port}
use Rattle.pb_service.specs.declared.used.LocalPort.{LocalPort}
use Rattle.pb_service.specs.Told.{rows_of}
use Rattle.pb_service.specs.Tables.{text_at, is_one_of}
use Rattle.pb_service.specs.UsedPorts.{is_used, AreUsedOnce}
use Rattle.pb_service.specs.Refusals.{names_of, link_ports, customer_ports, ports_told}
use Rattle.pb_service.proofs.Refusing.{Table, long_rows}

distinct_last : {K : Type 0} (e : K → K → Bool) (ks : List K) (k : K) → IsDistinct e ks
    → list_any (λ x. e x k) ks ≡ false → IsDistinct e (ks ++ k ∷ [])
unfolding IsDistinct
distinct_last e [] k d h = (tt, tt)
distinct_last e (x ∷ ks) k d h =
    let parts = or_parts (e x k) (list_any (λ y. e y k) ks) h in
    (All-append (λ y. e x y ≡ false) ks (k ∷ []) d.0 (parts.0, tt), distinct_last e ks k d.1 parts.1)

-- the empty list has no repetition
pub distinct_none : {K : Type 0} (e : K → K → Bool) → IsDistinct e []
unfolding IsDistinct
distinct_none e = tt

pub distinct_empty : {X K : Type 0} (e : K → K → Bool) (f : X → K) (xs : List X) → xs ≡ [] → IsDistinct e (map f xs)
distinct_empty e f xs is = rw is (distinct_none e)

-- a list stays without repetition if the new thing has a key that none of the others has
pub distinct_next : {X K : Type 0} (e : K → K → Bool) (f : X → K) (xs new : List X) (x : X) → IsDistinct e (map f xs)
    → list_any (λ y. e (f y) (f x)) xs ≡ false
    → new ≡ xs ++ x ∷ [] → IsDistinct e (map f new)
distinct_next e f xs new x d h is = rw (is, map-append f xs (x ∷ []))
    (distinct_last e (map f xs) (f x) d (list_any-map (λ k. e k (f x)) f xs ∙ h))

pub same-flip : (a b : List ℕ) → same a b ≡ false → same b a ≡ false
same-flip a b h = false-unless (same b a) (λ t. let again : same a b ≡ true = rw (same-one b a t) (same-self a)
    in true-false (same a b) again h)

any-flip : (k : List ℕ) (ks : List (List ℕ)) → list_any (same k) ks ≡ false → list_any (λ x. same x k) ks ≡ false
any-flip k [] h = refl
any-flip k (x ∷ ks) h =
    let parts = or_parts (same k x) (list_any (same k) ks) h in
    or_from (same x k) (list_any (λ y. same y k) ks) (same-flip k x parts.0) (any-flip k ks parts.1)

take_next : {X : Type 0} (xs : List X) (i : ℕ) (x : X) → slice_get xs i ≡ Some x → take (i + 1) xs ≡ take i xs ++ x ∷ []
take_next xs i x h = take_more xs i x (slice_get_within xs i x h)
    ∙ ap (λ z. take i xs ++ z ∷ []) (get_or_from_slice_get xs i x x h)

-- the names of the first tables stay distinct with one more name that none of them has
pub name_next : (document : Members) (section : Section) (names : List (Bor (List ℕ))) (i : ℕ) (row : Members)
    → map (λ n. n.now) names ≡ names_of document section
    → slice_get (rows_of document section) i ≡ Some row
    → is_one_of (map (λ n. n.now) (take i names)) (text_at row (codes "name")) ≡ false
    → IsDistinct same (take i (names_of document section)) → IsDistinct same (take (i + 1) (names_of document section))
name_next document section names i row e at new d =
    let name = text_at row (codes "name") in
    let here = slice_get-map (λ r. text_at r (codes "name")) (rows_of document section) i
    ∙ ap (option_map (λ r. text_at r (codes "name"))) at in
    let first : take i (names_of document section) ≡ map (λ n. n.now) (take i names) = ap (take i) (sym e)
    ∙ take-map (λ n. n.now) i names in
    let others : list_any (same name) (take i (names_of document section)) ≡ false = rw first new in
    rw (take_next (names_of document section) i name here)
    (distinct_last same (take i (names_of document section)) name d
    (any-flip name (take i (names_of document section)) others))

-- the names of the first tables are those of all tables, once all are read
pub names_all : (document : Members) (section : Section) (rows : List (Bor Table)) (n : ℕ) → length rows ≤ n
    → map (λ t. table_view t.now) rows ≡ rows_of document section
    → IsDistinct same (take n (names_of document section)) → IsDistinct same (names_of document section)
names_all document section rows n h e d =
    let few : length (names_of document section) ≤ n =
    omega (
      arith,
      long_rows document section rows e,
      length-map (rows_of document section)
          (λ r. text_at r (codes "name")),
    ) in
    rw (take_all n (names_of document section) few) at d

pub used_none : (used : List LocalPort) → used ≡ [] → AreUsedOnce used
used_none used is = distinct_empty is_same_port (λ p. (p.bridge, p.port)) used is

-- local ports stay distinct with one more that isn't in use
pub used_next : (used new : List LocalPort) (port : LocalPort) → AreUsedOnce used → is_used used port ≡ false
    → new ≡ used ++ port ∷ [] → AreUsedOnce new
used_next used new port d h is = distinct_next is_same_port (λ p. (p.bridge, p.port)) used new port d h is

-- the local ports of links and customer ports are all that the document uses, once all tables are read
pub ports_all : (document : Members) (rows : List (Bor Table)) (n : ℕ) (bridges : List (List ℕ))
    (first used : List LocalPort) → length rows ≤ n → map (λ t. table_view t.now) rows ≡ rows_of document Port
    → bridges ≡ names_of document Bridge
    → first ≡ flat_map (link_ports (names_of document Bridge)) (rows_of document Link)
    → used ≡ first ++ flat_map (customer_ports bridges) (map (λ t. table_view t.now) (take n rows)) → AreUsedOnce used
    → AreUsedOnce (ports_told document)
ports_all document rows n bridges first used h er eb ef eu once =
    let told : used ≡ ports_told document = rw (take_all n rows h, er, eb, ef) at eu in subst AreUsedOnce told once
