-- Sets of ports as bits, for `PortSet` and `Refusals`.
use Rattle.std.proofs.Common.{◌≡◌, zero, suc, ℕ, ◌+◌, ◌-◌, ◌*◌, ◌/◌, ◌%◌, ◌^◌, ◌<◌, ◌≤◌, ◌==◌, Bool, true, false}
use Rattle.std.proofs.Common.{cond, List, [], ◌∷◌, ◌++◌, map, get_or, length, refl, sym, ap, ◌∙◌, subst, arith}
use Rattle.std.proofs.Common.{append_assoc, append-nil}
use Rattle.std.proofs.Math.Nat.{pow-succ', mul_left_comm}
use Rattle.std.proofs.lemmas.Bool.{eqb-true, eqb-false}
use Rattle.std.proofs.lemmas.Nat.{pow_pos}
use Rattle.std.specs.List.{AllByRecursion}
use Rattle.pb_frame.proofs.Lists.{All-append}
use Rattle.pb_lan.specs.PortSets.{ports_in, refusals_in, word_in}
use Rattle.pb_lan.specs.declared.step.NoRoom.{NoRoom}
use Rattle.pb_lan.specs.declared.step.NoRoom.TheVariants.{Memory}

-- no bits mean no ports
pub no_ports : (n p : ℕ) → ports_in n p 0 ≡ []
unfolding ports_in
no_ports zero p = refl
no_ports (suc n) p = no_ports n (p + 1)

-- a bit above all others adds one port at the end of the list
pub port_more : (k n p bits : ℕ) → k < n → bits < 2 ^ k → ports_in n p (bits + 2 ^ k) ≡ ports_in n p bits
    ++ (p + k) ∷ []
unfolding ports_in
port_more k zero p bits l b = absurd (omega (arith, l))
port_more zero (suc n) p bits l b =
    let z : bits ≡ 0 = omega (arith, b) in
    let s : p ≡ p + 0 = omega arith in
    let one : bits + 1 ≡ 1 = omega (arith, z) in
    ap (λ x. ports_in (suc n) p x) one
    ∙ ap (λ ps. p ∷ ps) (no_ports n (p + 1))
    ∙ ap (λ q. q ∷ []) s
    ∙ sym (ap (λ x. ports_in (suc n) p x ++ (p + 0) ∷ []) z ∙ ap (λ ps. ps ++ (p + 0) ∷ []) (no_ports n (p + 1)))
port_more (suc k) (suc n) p bits l b =
    let w : 2 ^ suc k ≡ 2 * 2 ^ k = pow-succ' 2 k in
    let r : (bits + 2 ^ suc k) % 2 ≡ bits % 2 = omega (arith, w) in
    let q : (bits + 2 ^ suc k) / 2 ≡ bits / 2 + 2 ^ k = omega (arith, w) in
    let h : bits / 2 < 2 ^ k = omega (arith, w, b) in
    let s : p + 1 + k ≡ p + suc k = omega arith in
    ap (λ c. cond (c == 1) (p ∷ []) [] ++ ports_in n (p + 1) ((bits + 2 ^ suc k) / 2)) r
    ∙ ap (λ x. cond (bits % 2 == 1) (p ∷ []) [] ++ ports_in n (p + 1) x) q
    ∙ ap (λ ps. cond (bits % 2 == 1) (p ∷ []) [] ++ ps) (port_more k n (p + 1) (bits / 2) (omega (arith, l)) h)
    ∙ sym (append_assoc (cond (bits % 2 == 1) (p ∷ []) []) (ports_in n (p + 1) (bits / 2)) ((p + 1 + k) ∷ []))
    ∙ ap (λ x. ports_in (suc n) p bits ++ x ∷ []) s

-- a bound on the bits from the next port on gives one on the bits from this port on, if one port keeps the bound
lower_power : (pow : ℕ → ℕ) (p b rest all : ℕ) → ((m : ℕ) → rest < pow m → all < pow (suc m))
    → (b ≤ p → rest < pow 0 → all < pow 0) → rest < pow (b - (p + 1)) → all < pow (b - p)
lower_power pow p b rest all step none r = by (b - p) refl
  where
    by : (m : ℕ) → b - p ≡ m → all < pow (b - p)
    by zero e =
        let f : b - (p + 1) ≡ 0 = omega (arith, e) in
        subst (λ (k : ℕ). all < pow k) (sym e) (none (omega (arith, e)) (subst (λ (k : ℕ). rest < pow k) f r))
    by (suc m) e =
        let f : b - (p + 1) ≡ m = omega (arith, e) in
        subst (λ (k : ℕ). all < pow k) (sym e) (step m (subst (λ (k : ℕ). rest < pow k) f r))

-- if all ports are below one, the bits are below that port's
pub low_bits : (n p b bits : ℕ) → bits < 2 ^ n → AllByRecursion (λ q. q < b) (ports_in n p bits) → bits < 2 ^ (b - p)
unfolding ports_in
low_bits zero p b bits h a = let o : 0 < 2 ^ (b - p) = pow_pos (b - p) in omega (arith, h, o)
low_bits (suc n) p b bits h a =
    let w : 2 ^ suc n ≡ 2 * 2 ^ n = pow-succ' 2 n in
    elim (bits % 2 == 1) as (λ c. (bits % 2 == 1) ≡ c → AllByRecursion (λ q. q < b)
    (cond c (p ∷ []) [] ++ ports_in n (p + 1) (bits / 2)) → bits < 2 ^ (b - p)) [
      | true ↦ λ e a. lower_power (λ m. 2 ^ m) p b (bits / 2) bits step
          (λ l z. let within : p < b = a.0 in absurd (omega (arith, within, l)))
          (low_bits n (p + 1) b (bits / 2) (omega (arith, h, w)) a.1)
      | false ↦ λ e a. lower_power (λ m. 2 ^ m) p b (bits / 2) bits step
          (λ l z. let odd = eqb-false (bits % 2) 1 e in omega (arith, odd, z))
          (low_bits n (p + 1) b (bits / 2) (omega (arith, h, w)) a)
    ] refl a
  where
    step : (m : ℕ) → bits / 2 < 2 ^ m → bits < 2 ^ suc m
    step m r = let w : 2 ^ suc m ≡ 2 * 2 ^ m = pow-succ' 2 m in omega (arith, w, r)

-- the ports from one on are this port, if its bit is set, and then the later ones
port_first : (p bits : ℕ) → p < 17 → ports_in (17 - p) p bits ≡ cond (bits % 2 == 1) (p ∷ []) []
    ++ ports_in (17 - (p + 1)) (p + 1) (bits / 2)
unfolding ports_in
port_first p bits l =
    let f : 17 - p ≡ suc (17 - (p + 1)) = omega (arith, l) in
    ap (λ n. ports_in n p bits) f

-- two different numbers compare as not equal
pub unequal : (a b : ℕ) → (a ≡ b → ⊥) → (a == b) ≡ false
unequal a b n = elim (a == b) as (λ t. (a == b) ≡ t → t ≡ false)
    [ true ↦ λ e. absurd (n (eqb-true a b e)) | false ↦ λ e. refl ] refl

-- one step of the listing loop: one more port has been added or skipped
pub port_listed : (p bits : ℕ) (list more all : List ℕ) (is_set : Bool) → p < 17
    → list ++ ports_in (17 - p) p bits ≡ all
    → (bits % 2 == 1) ≡ is_set → more ≡ list ++ cond is_set (p ∷ []) []
    → more ++ ports_in (17 - (p + 1)) (p + 1) (bits / 2) ≡ all
port_listed p bits list more all is_set l e b m =
    ap (λ ps. ps ++ ports_in (17 - (p + 1)) (p + 1) (bits / 2)) (m ∙ ap (λ c. list ++ cond c (p ∷ []) []) (sym b))
    ∙ append_assoc list (cond (bits % 2 == 1) (p ∷ []) []) (ports_in (17 - (p + 1)) (p + 1) (bits / 2))
    ∙ ap (λ ps. list ++ ps) (sym (port_first p bits l)) ∙ e

-- no bits mean no refused ports
pub no_refusals : (n p : ℕ) → refusals_in n p 0 ≡ []
unfolding refusals_in
no_refusals zero p = refl
no_refusals (suc n) p = no_refusals n (p + 1)

quad : (k : ℕ) → 2 ^ (2 * suc k) ≡ 4 * 2 ^ (2 * k)
quad k =
    let e : 2 * suc k ≡ suc (suc (2 * k)) = omega arith in
    let a : 2 ^ suc (suc (2 * k)) ≡ 2 * 2 ^ suc (2 * k) = pow-succ' 2 (suc (2 * k)) in
    let b : 2 ^ suc (2 * k) ≡ 2 * 2 ^ (2 * k) = pow-succ' 2 (2 * k) in
    ap (λ i. 2 ^ i) e ∙ omega (arith, a, b)

-- two bits above all others add one refused port at the end of the list
pub refusal_more : (k n p words d : ℕ) → k < n → words < 2 ^ (2 * k) → d < 4
    → refusals_in n p (words + d * 2 ^ (2 * k)) ≡ refusals_in n p words ++ word_in (p + k) d
unfolding refusals_in
refusal_more k zero p words d l b h = absurd (omega (arith, l))
refusal_more zero (suc n) p words d l b h =
    let z : words ≡ 0 = omega (arith, b) in
    let one : words + d * 1 ≡ d = omega (arith, z) in
    let r : d % 4 ≡ d = omega (arith, h) in
    let q : d / 4 ≡ 0 = omega (arith, h) in
    let s : p ≡ p + 0 = omega arith in
    ap (λ x. refusals_in (suc n) p x) one
    ∙ ap (λ x. word_in p x ++ refusals_in n (p + 1) (d / 4)) r
    ∙ ap (λ x. word_in p d ++ refusals_in n (p + 1) x) q
    ∙ ap (λ rs. word_in p d ++ rs) (no_refusals n (p + 1))
    ∙ append-nil (word_in p d)
    ∙ ap (λ i. word_in i d) s
    ∙ sym (ap (λ x. refusals_in (suc n) p x ++ word_in (p + 0) d) z ∙ ap (λ rs. rs ++ word_in (p + 0) d)
    (no_refusals n (p + 1)))
refusal_more (suc k) (suc n) p words d l b h =
    let w : 2 ^ (2 * suc k) ≡ 4 * 2 ^ (2 * k) = quad k in
    let m : d * 2 ^ (2 * suc k) ≡ 4 * (d * 2 ^ (2 * k)) = ap (λ x. d * x) w ∙ mul_left_comm d 4 (2 ^ (2 * k)) in
    let r : (words + d * 2 ^ (2 * suc k)) % 4 ≡ words % 4 = ap (λ x. (words + x) % 4) m ∙ omega arith in
    let q : (words + d * 2 ^ (2 * suc k)) / 4 ≡ words / 4 + d * 2 ^ (2 * k) = ap (λ x. (words + x) / 4) m
    ∙ omega arith in
    let f : words / 4 < 2 ^ (2 * k) = omega (arith, w, b) in
    let s : p + 1 + k ≡ p + suc k = omega arith in
    ap (λ x. word_in p x ++ refusals_in n (p + 1) ((words + d * 2 ^ (2 * suc k)) / 4)) r
    ∙ ap (λ x. word_in p (words % 4) ++ refusals_in n (p + 1) x) q
    ∙ ap (λ rs. word_in p (words % 4) ++ rs) (refusal_more k n (p + 1) (words / 4) d (omega (arith, l)) f h)
    ∙ sym (append_assoc (word_in p (words % 4)) (refusals_in n (p + 1) (words / 4)) (word_in (p + 1 + k) d))
    ∙ ap (λ i. refusals_in (suc n) p words ++ word_in i d) s

-- if all refused ports are below one, the bits are below that port's
pub low_words : (n p b words : ℕ) → words < 2 ^ (2 * n)
    → AllByRecursion (λ q. q < b) (map (λ r. r.0) (refusals_in n p words)) → words < 2 ^ (2 * (b - p))
unfolding refusals_in
low_words zero p b words h a = let o : 0 < 2 ^ (2 * (b - p)) = pow_pos (2 * (b - p)) in omega (arith, h, o)
low_words (suc n) p b words h a =
    let w : 2 ^ (2 * suc n) ≡ 4 * 2 ^ (2 * n) = quad n in
    by (words % 4) refl (low_words n (p + 1) b (words / 4) (omega (arith, h, w))) a
  where
    step : (m : ℕ) → words / 4 < 2 ^ (2 * m) → words < 2 ^ (2 * suc m)
    step m r = let w : 2 ^ (2 * suc m) ≡ 4 * 2 ^ (2 * m) = quad m in omega (arith, w, r)

    here : p < b → words / 4 < 2 ^ (2 * (b - (p + 1))) → words < 2 ^ (2 * (b - p))
    here l = lower_power (λ m. 2 ^ (2 * m)) p b (words / 4) words step (λ k z. absurd (omega (arith, k, l)))

    by : (d : ℕ) → words % 4 ≡ d
        → (AllByRecursion (λ q. q < b) (map (λ r. r.0) (refusals_in n (p + 1) (words / 4))) → words / 4 < 2 ^
        (2 * (b - (p + 1))))
        → AllByRecursion (λ q. q < b) (map (λ r. r.0) (word_in p d ++ refusals_in n (p + 1) (words / 4)))
        → words < 2 ^ (2 * (b - p))
    by zero e f a = lower_power (λ m. 2 ^ (2 * m)) p b (words / 4) words step (λ k z. omega (arith, e, z)) (f a)
    by (suc zero) e f a = here a.0 (f a.1)
    by (suc (suc d)) e f a = here a.0 (f a.1)

refusal_first : (p words : ℕ) → p < 17 → refusals_in (17 - p) p words ≡ word_in p (words % 4)
    ++ refusals_in (17 - (p + 1)) (p + 1) (words / 4)
unfolding refusals_in
refusal_first p words l =
    let f : 17 - p ≡ suc (17 - (p + 1)) = omega (arith, l) in
    ap (λ n. refusals_in n p words) f

-- one step of the listing loop: one more refused port has been added or skipped
pub refusal_listed : (p words d : ℕ) (list more all : List (ℕ × NoRoom)) → p < 17
    → list ++ refusals_in (17 - p) p words ≡ all
    → words % 4 ≡ d → more ≡ list ++ word_in p d → more ++ refusals_in (17 - (p + 1)) (p + 1) (words / 4) ≡ all
refusal_listed p words d list more all l e b m =
    ap (λ rs. rs ++ refusals_in (17 - (p + 1)) (p + 1) (words / 4)) (m ∙ ap (λ x. list ++ word_in p x) (sym b))
    ∙ append_assoc list (word_in p (words % 4)) (refusals_in (17 - (p + 1)) (p + 1) (words / 4))
    ∙ ap (λ rs. list ++ rs) (sym (refusal_first p words l)) ∙ e

-- two bits that are neither 0 nor 1 mean out of memory
pub other_word : (p d : ℕ) → (d ≡ 0 → ⊥) → (d ≡ 1 → ⊥) → word_in p d ≡ (p, Memory) ∷ []
other_word p zero a b = absurd (a refl)
other_word p (suc zero) a b = absurd (b refl)
other_word p (suc (suc d)) a b = refl

-- no port is refused if and only if no bit is set
pub empty_words : (words : ℕ) → words < 4294967296 → (words == 0) ≡ (length (refusals_in 16 1 words) == 0)
empty_words zero h = ap (λ rs. length rs == 0) (sym (no_refusals 16 1))
empty_words (suc w) h = go (refusals_in 16 1 (suc w)) (low_words 16 1 1 (suc w) h)
  where
    go : (rs : List (ℕ × NoRoom)) → (AllByRecursion (λ q. q < 1) (map (λ r. r.0) rs) → suc w < 2 ^ (2 * (1 - 1)))
        → (suc w == 0) ≡ (length rs == 0)
    go [] f = let l : suc w < 1 = f tt in absurd (omega (arith, l))
    go (r ∷ rs) f = unequal (suc w) 0 (λ e. cc) ∙ sym (unequal (suc (length rs)) 0 (λ e. cc))

-- no port comes after the last one
pub ports_end : (p bits : ℕ) → 17 ≤ p → ports_in (17 - p) p bits ≡ []
unfolding ports_in
ports_end p bits l = let z : 17 - p ≡ 0 = omega (arith, l) in ap (λ n. ports_in n p bits) z

pub refusals_end : (p words : ℕ) → 17 ≤ p → refusals_in (17 - p) p words ≡ []
unfolding refusals_in
refusals_end p words l = let z : 17 - p ≡ 0 = omega (arith, l) in ap (λ n. refusals_in n p words) z

-- all refused ports are among those that the bits cover
refusals_before : (n p words : ℕ) → AllByRecursion (λ r. r.0 < p + n) (refusals_in n p words)
unfolding refusals_in
refusals_before zero p words = tt
refusals_before (suc n) p words =
    let s : p + 1 + n ≡ p + suc n = omega arith in
    All-append (λ r. r.0 < p + suc n) (word_in p (words % 4)) (refusals_in n (p + 1) (words / 4)) (one (words % 4))
    (subst (λ (k : ℕ). AllByRecursion (λ r. r.0 < k) (refusals_in n (p + 1) (words / 4))) s
    (refusals_before n (p + 1) (words / 4)))
  where
    one : (d : ℕ) → AllByRecursion (λ r. r.0 < p + suc n) (word_in p d)
    one zero = tt
    one (suc zero) = (omega arith, tt)
    one (suc (suc d)) = (omega arith, tt)

pub refusals_within : (words : ℕ) (rs : List (ℕ × NoRoom)) → refusals_in 16 1 words ≡ rs
    → AllByRecursion (λ r. r.0 ≤ 16) rs
refusals_within words rs e = subst (λ (rs : List (ℕ × NoRoom)). AllByRecursion (λ r. r.0 ≤ 16) rs) e
    (below (refusals_in 16 1 words) (refusals_before 16 1 words))
  where
    below : (rs : List (ℕ × NoRoom)) → AllByRecursion (λ r. r.0 < 17) rs → AllByRecursion (λ r. r.0 ≤ 16) rs
    below [] a = tt
    below (r ∷ rs) a = let h : r.0 < 17 = a.0 in (omega (arith, h), below rs a.1)

-- each refused port of the list is at most 16
pub within_at : (rs : List (ℕ × NoRoom)) (i : ℕ) (d : ℕ × NoRoom) → i < length rs → AllByRecursion (λ r. r.0 ≤ 16) rs
    → (get_or rs i d).0 ≤ 16
within_at [] i d l a = absurd (omega (arith, l))
within_at (r ∷ rs) zero d l a = a.0
within_at (r ∷ rs) (suc i) d l a = within_at rs i d (omega (arith, l)) a.1
