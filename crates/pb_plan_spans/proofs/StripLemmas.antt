-- A line after its beginning (used by `is_made_of`).
use Rattle.std.proofs.Common.{◌≡◌, inl, inr, ℕ, suc, arith, Bool, true, false, List, [], ◌∷◌, ◌++◌, length, Some}
use Rattle.std.proofs.Common.{None, refl, sym, ap, ◌∙◌}
use Rattle.std.specs.Prelude.{◌==◌, ◌&&◌, if◌then◌else◌}
use Rattle.std.specs.Option.{option_and_then}
use Rattle.std.proofs.lemmas.Bool.Decides.{eqb_tells}
use Rattle.pb_frame.specs.Admission.{same}
use Rattle.pb_plan_spans.specs.Stripping.{behind, ends}

-- the rest after two texts is the rest after the second, taken of the rest after the first
behind-append : (a b t : List ℕ) → behind (a ++ b) t ≡ option_and_then (behind b) (behind a t)
behind-append [] b t = refl
behind-append (x ∷ a) b [] = refl
behind-append (x ∷ a) b (y ∷ t) = step (y == x) (behind-append a b t)
  where
    step : (e : Bool) → behind (a ++ b) t ≡ option_and_then (behind b) (behind a t)
        → (if e then behind (a ++ b) t else None) ≡ option_and_then (behind b) (if e then behind a t else None)
    step true rest = rest
    step false rest = refl

-- a text with an octet is not empty
not_empty : (n : ℕ) → false ≡ (suc n == 0)
not_empty n = elim (eqb_tells (suc n) 0) [ inl p ↦ absurd (omega (arith, p.1)) | inr p ↦ sym p.0 ]

-- a text is the same as another if nothing remains after it
ends-behind : (a t : List ℕ) → same t a ≡ ends (behind a t)
ends-behind [] [] = refl
ends-behind [] (y ∷ t) = not_empty (length t)
ends-behind (x ∷ a) [] = refl
ends-behind (x ∷ a) (y ∷ t) = step (y == x) (ends-behind a t)
  where
    step : (e : Bool) → same t a ≡ ends (behind a t) → (e && same t a) ≡ ends (if e then behind a t else None)
    step true rest = rest
    step false rest = refl

-- the same of three texts
whole : (a b d t : List ℕ)
    → same t (a ++ b ++ d) ≡ ends (option_and_then (behind d) (option_and_then (behind b) (behind a t)))
whole a b d t = ends-behind (a ++ b ++ d) t
    ∙ ap ends (behind-append (a ++ b) d t ∙ ap (λ o. option_and_then (behind d) o) (behind-append a b t))

pub not_first : (a b d t : List ℕ) → None ≡ behind a t → false ≡ same t (a ++ b ++ d)
not_first a b d t e = sym (whole a b d t ∙ ap (λ o. ends (option_and_then (behind d) (option_and_then (behind b) o)))
    (sym e))

-- the comparison that remains after the first text
second : (a b d t r : List ℕ) → Some r ≡ behind a t
    → same t (a ++ b ++ d) ≡ ends (option_and_then (behind d) (behind b r))
second a b d t r e = whole a b d t ∙ ap (λ o. ends (option_and_then (behind d) (option_and_then (behind b) o))) (sym e)

pub not_second : (a b d t r : List ℕ) → Some r ≡ behind a t → None ≡ behind b r → false ≡ same t (a ++ b ++ d)
not_second a b d t r e f = sym (second a b d t r e ∙ ap (λ o. ends (option_and_then (behind d) o)) (sym f))

third : (a b d t r s : List ℕ) → Some r ≡ behind a t → Some s ≡ behind b r → same t (a ++ b ++ d) ≡ ends (behind d s)
third a b d t r s e f = second a b d t r e ∙ ap (λ o. ends (option_and_then (behind d) o)) (sym f)

pub not_third : (a b d t r s : List ℕ) → Some r ≡ behind a t → Some s ≡ behind b r → None ≡ behind d s
    → false ≡ same t (a ++ b ++ d)
not_third a b d t r s e f g = sym (third a b d t r s e f ∙ ap ends (sym g))

pub all_three : (a b d t r s u : List ℕ) → Some r ≡ behind a t → Some s ≡ behind b r → Some u ≡ behind d s
    → (length u == 0) ≡ same t (a ++ b ++ d)
all_three a b d t r s u e f g = sym (third a b d t r s e f ∙ ap ends (sym g))
