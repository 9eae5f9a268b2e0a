-- Texts that end with a line, and sequences of replies.
use Rattle.std.proofs.Common.{◌≡◌, ℕ, ◌-◌, max, List, [], ◌∷◌, ◌++◌, length, take, drop}
use Rattle.std.proofs.Common.{refl, sym, ap, ◌∙◌, arith, append_assoc, append-nil, length-append}
use Rattle.std.proofs.Math.Seq.{take-append_seam, drop-append_seam}
use Rattle.pb_cmd_control.specs.Answers.{IsAnswer, AreAnswers, status_of, status_of_all}
use Rattle.pb_cmd_control.specs.declared.answer.Verdict.{Verdict}
use Rattle.pb_cmd_control.specs.declared.answer.Verdict.TheVariants.{Done, NoSuch, Bad, NoAnswer}

-- the index at which the last line of a text begins
begins_at : (lines line text : List ℕ) → text ≡ lines ++ line → length text - length line ≡ length lines
begins_at lines line text e = omega (arith, ap length e, length-append lines line)

-- the text before the last line
pub front_of : (lines line text : List ℕ) → text ≡ lines ++ line → take (length text - length line) text ≡ lines
front_of lines line text e = rw (begins_at lines line text e, e) (take-append_seam lines line)

-- the last line of the text
pub back_of : (lines line text : List ℕ) → text ≡ lines ++ line → drop (length text - length line) text ≡ line
back_of lines line text e = rw (begins_at lines line text e, e) (drop-append_seam lines line)

-- a sequence of replies with one more
pub AreAnswers-snoc : (verdicts : List Verdict) (verdict : Verdict) (text more : List ℕ) → AreAnswers verdicts text
    → IsAnswer verdict more → AreAnswers (verdicts ++ verdict ∷ []) (text ++ more)
AreAnswers-snoc [] verdict text more none last =
    (more, [], last, refl, ap (λ t. t ++ more) none ∙ sym (append-nil more))
AreAnswers-snoc (v ∷ verdicts) verdict text more (first, others, is_first, are_others, e) last = (
  first,
  others ++ more,
  is_first,
  AreAnswers-snoc verdicts verdict others more are_others last,
  ap (λ t. t ++ more) e ∙ append_assoc first others more,
)

-- the exit status with one more reply
pub status_of_all-snoc : (verdicts : List Verdict) (verdict : Verdict)
    → status_of_all (verdicts ++ verdict ∷ []) ≡ max (status_of_all verdicts) (status_of verdict)
status_of_all-snoc [] Done = refl
status_of_all-snoc [] NoSuch = refl
status_of_all-snoc [] Bad = refl
status_of_all-snoc [] NoAnswer = refl
status_of_all-snoc (Done ∷ verdicts) verdict = status_of_all-snoc verdicts verdict
status_of_all-snoc (NoSuch ∷ verdicts) Done = refl
status_of_all-snoc (NoSuch ∷ verdicts) NoSuch = refl
status_of_all-snoc (NoSuch ∷ verdicts) Bad = refl
status_of_all-snoc (NoSuch ∷ verdicts) NoAnswer = refl
status_of_all-snoc (Bad ∷ verdicts) Done = refl
status_of_all-snoc (Bad ∷ verdicts) NoSuch = refl
status_of_all-snoc (Bad ∷ verdicts) Bad = refl
status_of_all-snoc (Bad ∷ verdicts) NoAnswer = refl
status_of_all-snoc (NoAnswer ∷ verdicts) Done = refl
status_of_all-snoc (NoAnswer ∷ verdicts) NoSuch = refl
status_of_all-snoc (NoAnswer ∷ verdicts) Bad = refl
status_of_all-snoc (NoAnswer ∷ verdicts) NoAnswer = refl
