use Rattle.std.proofs.Common.{ℕ, List, drop}
use Rattle.pb_export.specs.Fitting.{IsAfterChoice}
use Rattle.pb_export.proofs.reading.choice_at.Given as goal

abbrev pub invariant-loop-choice : goal.invariant-loop-choice
invariant-loop-choice l = record {
  next : (after : List ℕ) → IsAfterChoice l.choices l.text after
      → IsAfterChoice (drop l.choice-index l.choices) l.text after;
  back : (after : List ℕ) → IsAfterChoice (drop l.choice-index l.choices) l.text after
      → IsAfterChoice l.choices l.text after;
}
