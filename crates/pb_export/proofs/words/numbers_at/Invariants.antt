use Rattle.std.proofs.Common.{◌≡◌, ℕ, List, ◌++◌, length}
use Rattle.pb_export.specs.Fitting.{AreNumbers}
use Rattle.pb_export.specs.Rows.{numbers_text}
use denote.Shadow.{shadow}
use denote.Text.{Utf8}
use Rattle.pb_export.proofs.words.numbers_at.Given as goal

abbrev pub invariant-numbers : goal.invariant-numbers
invariant-numbers l = record {
  text_is : l.fn.text ≡ numbers_text l.numbers.items ++ l.rest;
  are : (ns back : List ℕ) → AreNumbers ns l.rest back → AreNumbers (l.numbers.items ++ ns) l.fn.text back;
  utf8 : shadow (Utf8 l.rest);
}

abbrev pub decreases-numbers : goal.decreases-numbers
decreases-numbers l = length l.rest
