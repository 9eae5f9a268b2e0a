-- The lines of a run's report (used by `put_faults` and `put_run`).
use Rattle.std.proofs.Common.{◌≡◌, ◌≢◌, ℕ, List, [], ◌∷◌, ◌++◌, length, refl, sym, ap, ◌∙◌, arith}
use Rattle.std.proofs.Common.{append_assoc, length-append}
use Rattle.pb_cmd_run.specs.Reports.{status_of}

pub some_told : (old text : List ℕ) → length (old ++ text) ≢ length old → status_of text ≡ 3
some_told old [] ne = absurd (ne (omega (arith, length-append old [])))
some_told old (x ∷ xs) ne = refl

-- the exit status by the lengths of the text before and after the faults
pub told_status : (old mid new faults more : List ℕ) (before after : ℕ) → mid ≡ old ++ faults → new ≡ mid ++ more
    → before ≡ length old → after ≡ length new
    → after ≢ before → 3 ≡ status_of (faults ++ more)
told_status old mid new faults more before after e f b a ne =
    let all : new ≡ old ++ (faults ++ more) = f ∙ ap (λ z. z ++ more) e ∙ append_assoc old faults more in
    sym (some_told old (faults ++ more) (λ same. ne (a ∙ ap length all ∙ same ∙ sym b)))

-- a text of four parts, appended one after another
pub four_parts : (old a b c d o1 o2 o3 o4 : List ℕ) → o1 ≡ old ++ a → o2 ≡ o1 ++ b → o3 ≡ o2 ++ c → o4 ≡ o3 ++ d
    → o4 ≡ old ++ (a ++ b ++ c ++ d)
four_parts old a b c d o1 o2 o3 o4 e1 e2 e3 e4 =
    e4 ∙ ap (λ z. z ++ d) (e3 ∙ ap (λ z. z ++ c) (e2 ∙ ap (λ z. z ++ b) e1 ∙ append_assoc old a b) ∙ append_assoc old
    (a ++ b) c) ∙ append_assoc old (a ++ b ++ c) d
