-- The path of a key, as pb_service prints it, leads to the header of its table.
use Rattle.std.proofs.Common.{◌≡◌, ℕ, suc, zero, ◌+◌, ◌<◌, inl, inr, Bool, true, false, List, [], ◌∷◌, ◌++◌, length}
use Rattle.std.proofs.Common.{take, drop, Some, None, refl, sym, ap, subst, ◌∙◌, arith, append_assoc, codes}
use Rattle.std.proofs.Common.{length-append, nat_eq}
use Rattle.std.specs.Prelude.{Option, ◌==◌, ◌&&◌, not, nat_lt, cond, unwrap_or, if◌then◌else◌}
use Rattle.std.specs.Fmt.{decimal, digits}
use Rattle.std.specs.List.{list_all, position_or_len, starts_with}
use Rattle.std.specs.Option.{option_map, option_and_then, option_map_or}
use Rattle.std.proofs.Math.Seq.{take-append_seam, drop-append-add}
use Rattle.std.proofs.lemmas.Bool.{lt-ltb, true≢false, eqb-true, and_parts}
use Rattle.std.proofs.lemmas.Bool.Decides.{eqb_tells}
use Rattle.pb_plan_spans.specs.Places.{number_in, parted, row_in, place_in}

-- the octet doesn't occur in the text
abbrev lacks : ℕ → List ℕ → Bool
lacks mark text = list_all (λ b. not (b == mark)) text

first_at : (mark : ℕ) → (mark == mark) ≡ true → (a rest : List ℕ) → lacks mark a ≡ true
    → position_or_len (λ b. b == mark) (a ++ mark ∷ rest) ≡ length a
first_at mark self [] rest h = ap (λ e. cond (not e) (1 + position_or_len (λ b. b == mark) rest) 0) self
first_at mark self (x ∷ a) rest h = step (x == mark) h (λ g. first_at mark self a rest g)
  where
    at : ℕ
    at = position_or_len (λ b. b == mark) (a ++ mark ∷ rest)

    step : (e : Bool) → (not e && lacks mark a) ≡ true → (lacks mark a ≡ true → at ≡ length a)
        → cond (not e) (1 + at) 0 ≡ suc (length a)
    step true g ih = absurd (true≢false (sym g))
    step false g ih = omega (arith, ih g)

-- a text is divided at the first octet of this value
parted_at : (mark : ℕ) → (mark == mark) ≡ true → (a rest : List ℕ) → lacks mark a ≡ true
    → parted mark (a ++ mark ∷ rest) ≡ Some (a, rest)
parted_at mark self a rest h =
    let text = a ++ mark ∷ rest in
    let within : length a < length text = omega (arith, length-append a (mark ∷ rest)) in
    ap (λ at. option_map (λ n. (take n text, drop (n + 1) text)) (cond (nat_lt at (length text)) (Some at) None))
    (first_at mark self a rest h)
    ∙ ap (λ e. option_map (λ n. (take n text, drop (n + 1) text)) (cond e (Some (length a)) None))
    (lt-ltb (length a) (length text) within)
    ∙ ap (λ t. Some (t, drop (length a + 1) text)) (take-append_seam a (mark ∷ rest))
    ∙ ap (λ t. Some (a, t)) (drop-append-add a (mark ∷ rest) 1)

-- a printed number is read back, and has no bracket
reads_back : ℕ → Bool
reads_back n = lacks 93 (decimal n) && option_map_or (λ m. m == n) (number_in (decimal n)) false

-- each number below the bound is read back
all_read_back : ℕ → Bool
all_read_back zero = true
all_read_back (suc n) = reads_back n && all_read_back n

table_numbers : all_read_back 128 ≡ true
unfolding all_read_back reads_back digits
table_numbers = refl

one_of : (n bound : ℕ) → all_read_back bound ≡ true → n < bound → reads_back n ≡ true
unfolding all_read_back
one_of n zero h l = absurd (omega arith)
one_of n (suc bound) h l =
    let parts = and_parts (reads_back bound) (all_read_back bound) h in
    elim (eqb_tells n bound) [
      | inl p ↦ subst (λ m. reads_back m ≡ true) (sym p.1) parts.0
      | inr p ↦ let ne = p.1 in one_of n bound parts.1 (omega arith)
    ]

read_one : (n : ℕ) (o : Option ℕ) → option_map_or (λ m. m == n) o false ≡ true → o ≡ Some n
read_one n None h = absurd (true≢false (sym h))
read_one n (Some m) h = ap (λ x. Some x) (eqb-true m n h)

-- the number of a table, which is below 128, is read back
number_place : (n : ℕ) → n < 128 → (lacks 93 (decimal n) ≡ true) × (number_in (decimal n) ≡ Some n)
unfolding reads_back
number_place n l =
    let parts = and_parts (lacks 93 (decimal n)) (option_map_or (λ m. m == n) (number_in (decimal n)) false)
    (one_of n 128 table_numbers l) in
    (parts.0, read_one n (number_in (decimal n)) parts.1)

-- WORD and N are read back from `WORD[N].KEY`
row_back : (word key : List ℕ) (n : ℕ) → n < 128 → lacks 91 word ≡ true
    → row_in (word ++ 91 ∷ (decimal n ++ 93 ∷ (46 ∷ key))) ≡ Some (word, n)
row_back word key n l h =
    let number = number_place n l in
    let rest = decimal n ++ 93 ∷ (46 ∷ key) in
    ap (λ o. option_and_then (λ p. option_and_then (λ q. option_map (λ m. (p.0, m)) (number_in q.0)) (parted 93 p.1))
    o) (parted_at 91 refl word rest h)
    ∙ ap (λ o. option_and_then (λ q. option_map (λ m. (word, m)) (number_in q.0)) o)
    (parted_at 93 refl (decimal n) (46 ∷ key) number.0)
    ∙ ap (λ o. option_map (λ m. (word, m)) o) number.1

-- the parts of a printed path, grouped differently
regrouped : (word digits key : List ℕ) → word ++ codes "[" ++ digits ++ codes "]." ++ key ≡ word
    ++ 91 ∷ (digits ++ 93 ∷ (46 ∷ key))
regrouped word digits key = simp append_assoc

row_place : (word key : List ℕ) (n : ℕ) → n < 128 → lacks 91 word ≡ true
    → ((rest : List ℕ) → starts_with nat_eq (word ++ rest) (codes "network.") ≡ false)
    → place_in (word ++ codes "[" ++ decimal n ++ codes "]." ++ key) ≡ (word, n)
row_place word key n l h other =
    let path = word ++ 91 ∷ (decimal n ++ 93 ∷ (46 ∷ key)) in
    ap place_in (regrouped word (decimal n) key)
    ∙ ap (λ e. if e then (codes "network", 0) else unwrap_or (row_in path) (path, 0))
    (other (91 ∷ (decimal n ++ 93 ∷ (46 ∷ key))))
    ∙ ap (λ o. unwrap_or o (path, 0)) (row_back word key n l h)

-- the path of a key of each section, as pb_service prints it (`path_at`), leads back to the section and the number of
-- its table, of which a plan has at most 128
pub bridge_place : (n : ℕ) (key : List ℕ) → n < 128
    → place_in (codes "bridge" ++ codes "[" ++ decimal n ++ codes "]." ++ key) ≡ (codes "bridge", n)
bridge_place n key l = row_place (codes "bridge") key n l refl (λ rest. refl)

pub link_place : (n : ℕ) (key : List ℕ) → n < 128
    → place_in (codes "link" ++ codes "[" ++ decimal n ++ codes "]." ++ key) ≡ (codes "link", n)
link_place n key l = row_place (codes "link") key n l refl (λ rest. refl)

pub service_place : (n : ℕ) (key : List ℕ) → n < 128
    → place_in (codes "service" ++ codes "[" ++ decimal n ++ codes "]." ++ key) ≡ (codes "service", n)
service_place n key l = row_place (codes "service") key n l refl (λ rest. refl)

pub port_place : (n : ℕ) (key : List ℕ) → n < 128
    → place_in (codes "port" ++ codes "[" ++ decimal n ++ codes "]." ++ key) ≡ (codes "port", n)
port_place n key l = row_place (codes "port") key n l refl (λ rest. refl)

pub event_place : (n : ℕ) (key : List ℕ) → n < 128
    → place_in (codes "event" ++ codes "[" ++ decimal n ++ codes "]." ++ key) ≡ (codes "event", n)
event_place n key l = row_place (codes "event") key n l refl (λ rest. refl)

pub network_place : (key : List ℕ) → place_in (codes "network." ++ key) ≡ (codes "network", 0)
network_place key = refl
