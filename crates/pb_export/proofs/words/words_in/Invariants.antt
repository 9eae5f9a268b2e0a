use Rattle.std.proofs.Common.{◌≡◌, ◌++◌, length}
use Rattle.pb_export.specs.Fitting.{AreWords}
use Rattle.pb_export.specs.Rows.{words_text}
use denote.Shadow.{shadow}
use denote.Text.{Utf8}
use Rattle.pb_export.proofs.words.words_in.Given as goal

abbrev pub invariant-words : goal.invariant-words
invariant-words l = record {
  text_is : l.fn.text ≡ words_text l.words.items ++ l.rest;
  are : AreWords l.fn.text → AreWords l.rest;
  utf8 : shadow (Utf8 l.rest);
}

abbrev pub decreases-words : goal.decreases-words
decreases-words l = length l.rest
