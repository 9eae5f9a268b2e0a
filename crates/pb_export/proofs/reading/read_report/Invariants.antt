use Rattle.std.proofs.Common.{◌≡◌, ◌++◌, length}
use Rattle.std.specs.Prelude.{All}
use Rattle.pb_export.specs.Rows.{report_text, IsRowOf}
use denote.Shadow.{shadow}
use denote.Text.{Utf8}
use Rattle.pb_export.proofs.reading.read_report.Given as goal

abbrev pub invariant-lines : goal.invariant-lines
invariant-lines l = record {
  are : All (IsRowOf l.templates) l.rows.items;
  text_is : l.fn.text ≡ report_text
      l.rows.items ++ l.rest;
  utf8 : shadow (Utf8 l.rest);
}

abbrev pub decreases-lines : goal.decreases-lines
decreases-lines l = length l.rest
