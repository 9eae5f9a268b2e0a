use Rattle.std.proofs.Common.{◌≡◌, List, ℕ, [], ◌∷◌, ◌++◌, ap, sym, ◌∙◌, append_assoc, rules}
use Rattle.std.proofs.lemmas.List.Elements.{All-push}
use Rattle.pb_export.specs.Rows.{row_text, IsRowOf}
use Rattle.pb_export.specs.declared.rows.Row.{Row}
use Rattle.pb_export.proofs.FitLemmas.{one_line}
use Rattle.pb_export.proofs.TextLemmas.{text_more}
use Rattle.pb_export.proofs.reading.read_report.Goals as goal

pub row_of-requires : goal.row_of-requires
row_of-requires c = one_line c.in-Some.line.now c.in-Some.later.now c.lines.rest.now c.in-Some.ensures.first

pub lines-preserved : goal.lines-preserved
lines-preserved c =
    let got = rw c.in-Some-2.is at c.in_ok-row.ensures in
    let grown = c.in_ok-push.ensures.items in
    let rows = c.lines.rows.items in
    let row = c.in-Some-2.row in
    let later = c.in-Some.later.now in
    let inv = c.lines.invariant in
    let cut : c.lines.rest.now ≡ (row_text row ++ 10 ∷ []) ++ later =
    c.in-Some.ensures.text ∙ sym (append_assoc c.in-Some.line.now (10 ∷ []) later)
    ∙ ap (λ (z : List ℕ). (z ++ 10 ∷ []) ++ later) got.1 in record {
      are = rw grown (All-push (IsRowOf c.args.templates.now) rows row inv.are got.0);
      text_is = rw grown (text_more (λ (r : Row). row_text r ++ 10 ∷ []) rows row c.args.text.now c.lines.rest.now
          later inv.text_is cut);
      utf8 = search rules;
    }
