-- The replies of a control socket.
use Rattle.std.specs.Prelude.{◌≡◌, ◌⊎◌, ℕ, List, [], ◌∷◌, ◌++◌, codes}
use Rattle.pb_cmd_control.specs.declared.answer.Verdict.{Verdict}
use Rattle.pb_cmd_control.specs.declared.answer.Verdict.TheVariants.{Done, NoSuch, Bad, NoAnswer}

-- the last line of a reply
abbrev pub last_line : Verdict → List ℕ
last_line Done = codes "ok" ++ 10 ∷ []
last_line NoSuch = codes "no such" ++ 10 ∷ []
last_line Bad = codes "bad" ++ 10 ∷ []
last_line NoAnswer = codes "no answer" ++ 10 ∷ []

-- the text is empty or ends with a line feed
abbrev pub AreWholeLines : List ℕ → Type 0
AreWholeLines lines = (lines ≡ []) ⊎ ((front : List ℕ) × (lines ≡ front ++ 10 ∷ []))

-- the text consists of whole lines, of which this is the last one
abbrev pub EndsWithLine : List ℕ → List ℕ → Type 0
EndsWithLine line text = (lines : List ℕ) × AreWholeLines lines × (text ≡ lines ++ line)

-- the text is a reply: lines, the last of which gives the result
abbrev pub IsAnswer : Verdict → List ℕ → Type 0
IsAnswer verdict text = EndsWithLine (last_line verdict) text

-- the text is a sequence of replies with these results
abbrev pub AreAnswers : List Verdict → List ℕ → Type 0
AreAnswers [] text = text ≡ []
AreAnswers (verdict ∷ verdicts) text = (first : List ℕ) × (others : List ℕ)
    × IsAnswer verdict first × AreAnswers verdicts others × (text ≡ first ++ others)

-- the exit status for a result
abbrev pub status_of : Verdict → ℕ
status_of Done = 0
status_of NoSuch = 4
status_of Bad = 4
status_of NoAnswer = 4

-- the exit status for several results: 4 if a command was not done
abbrev pub status_of_all : List Verdict → ℕ
status_of_all [] = 0
status_of_all (Done ∷ verdicts) = status_of_all verdicts
status_of_all (NoSuch ∷ verdicts) = 4
status_of_all (Bad ∷ verdicts) = 4
status_of_all (NoAnswer ∷ verdicts) = 4
