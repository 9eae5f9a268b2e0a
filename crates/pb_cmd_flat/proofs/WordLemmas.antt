-- A line has one reading (used by `read_frame_line`).
use Rattle.std.proofs.Common.{◌≡◌, ◌≢◌, ℕ, zero, suc, ◌+◌, ◌-◌, ◌*◌, ◌<◌, ◌≤◌, Bool, true, false, ◌&&◌, List, [], ◌∷◌}
use Rattle.std.proofs.Common.{◌++◌, length, drop, get_or, Some, None, refl, sym, ap, ◌∙◌, arith, codes}
use Rattle.std.proofs.Common.{cond, leb, leb-true, nat_eq}
use Rattle.std.specs.List.{starts_with}
use Rattle.std.proofs.lemmas.Bool.{and_parts}
use Rattle.std.proofs.lemmas.Slice.Eq.{starts_is}
use Rattle.std.proofs.lemmas.Bool.Decides.{Decides-eqb}
use Rattle.pb_messages.specs.Words.{is_first, is_decimal, port_of, HasNoSpace}
use Rattle.pb_cmd_flat.specs.Words.{IsFrameLine}

first_not_space : (a : ℕ) → is_first a ≡ true → a ≢ 32
first_not_space a h = λ e. let low : 49 ≤ a = leb-true 49 a (and_parts (leb 49 a) (leb a 57) h).0 in absurd
    (omega arith)

decimal_not_space : (a : ℕ) → is_decimal a ≡ true → a ≢ 32
decimal_not_space a h = λ e. let low : 48 ≤ a = leb-true 48 a (and_parts (leb 48 a) (leb a 57) h).0 in absurd
    (omega arith)

test_of : (b : Bool) (n p : ℕ) → cond b (Some n) None ≡ Some p → b ≡ true
test_of true n p e = refl
test_of false n p e = cc

-- the digits of a port have no space
pub port_has_no_space : (digits : List ℕ) (p : ℕ) → port_of digits ≡ Some p → (k : ℕ) → k < length digits
    → get_or digits k 0 ≢ 32
port_has_no_space [] p e k h = absurd (omega arith)
port_has_no_space (a ∷ []) p e zero h = first_not_space a (test_of (is_first a) (a - 48) p e)
port_has_no_space (a ∷ []) p e (suc k) h = absurd (omega arith)
port_has_no_space (a ∷ b ∷ []) p e zero h =
    first_not_space a (and_parts (is_first a) (is_decimal b)
    (test_of (is_first a && is_decimal b) ((a - 48) * 10 + (b - 48)) p e)).0
port_has_no_space (a ∷ b ∷ []) p e (suc zero) h =
    decimal_not_space b (and_parts (is_first a) (is_decimal b)
    (test_of (is_first a && is_decimal b) ((a - 48) * 10 + (b - 48)) p e)).1
port_has_no_space (a ∷ b ∷ []) p e (suc (suc k)) h = absurd (omega arith)
port_has_no_space (a ∷ b ∷ c ∷ []) p e zero h =
    let all = test_of (is_first a && is_decimal b && is_decimal c) ((a - 48) * 100 + (b - 48) * 10 + (c - 48)) p e in
    first_not_space a (and_parts (is_first a) (is_decimal b)
    (and_parts (is_first a && is_decimal b) (is_decimal c) all).0).0
port_has_no_space (a ∷ b ∷ c ∷ []) p e (suc zero) h =
    let all = test_of (is_first a && is_decimal b && is_decimal c) ((a - 48) * 100 + (b - 48) * 10 + (c - 48)) p e in
    decimal_not_space b (and_parts (is_first a) (is_decimal b)
    (and_parts (is_first a && is_decimal b) (is_decimal c) all).0).1
port_has_no_space (a ∷ b ∷ c ∷ []) p e (suc (suc zero)) h =
    let all = test_of (is_first a && is_decimal b && is_decimal c) ((a - 48) * 100 + (b - 48) * 10 + (c - 48)) p e in
    decimal_not_space c (and_parts (is_first a && is_decimal b) (is_decimal c) all).1
port_has_no_space (a ∷ b ∷ c ∷ []) p e (suc (suc (suc k))) h = absurd (omega arith)
port_has_no_space (a ∷ b ∷ c ∷ d ∷ more) p e k h = cc

pub space_in : (a x : List ℕ) → HasNoSpace (a ++ 32 ∷ x) → ⊥
space_in [] x none = none 0 (omega arith) refl
space_in (y ∷ a) x none = space_in a x (λ k h. none (suc k) (omega arith))

-- a text is divided at its first space in one way
pub split_unique : (a b x y : List ℕ) → HasNoSpace a → HasNoSpace b → a ++ 32 ∷ x ≡ b ++ 32 ∷ y → (a ≡ b) × (x ≡ y)
split_unique [] [] x y na nb e = (refl, cc)
split_unique [] (c ∷ b) x y na nb e = let head : c ≡ 32 = cc in absurd (nb 0 (omega arith) head)
split_unique (d ∷ a) [] x y na nb e = let head : d ≡ 32 = cc in absurd (na 0 (omega arith) head)
split_unique (d ∷ a) (c ∷ b) x y na nb e =
    let head : d ≡ c = cc in
    let tail : a ++ 32 ∷ x ≡ b ++ 32 ∷ y = cc in
    let rest = split_unique a b x y (λ k h. na (suc k) (omega arith)) (λ k h. nb (suc k) (omega arith)) tail in
    (let same : a ≡ b = rest.0 in cc, rest.1)

-- the parts that are read are those of the line
pub same_parts : (limit ports : ℕ) (line digits hex : List ℕ) (port : ℕ) (frame : List ℕ)
    (l : IsFrameLine limit ports line port frame) → HasNoSpace digits
    → drop 3 line ≡ digits ++ 32 ∷ hex → (l.digits ≡ digits) × (l.hex ≡ hex)
same_parts limit ports line digits hex port frame l none e =
    split_unique l.digits digits l.hex hex (port_has_no_space l.digits port l.number) none
    (sym (ap (λ z. drop 3 z) l.spelled) ∙ e)

pub three : (line : List ℕ) → starts_with nat_eq line (codes "in ") ≡ true → line ≡ codes "in " ++ drop 3 line
three line h = (starts_is Decides-eqb line (codes "in ") (starts_with nat_eq line (codes "in ")) refl).0 h
