use Rattle.std.proofs.Common.{◌≡◌, ◌∷◌, [], ℕ, length, All, refl, sym, subst, rules}
use Rattle.std.proofs.lemmas.Bool.{false≢true}
use Rattle.std.proofs.lemmas.List.{take_all}
use Rattle.pb_export.specs.Fitting.{Lacks, FitsTemplate}
use Rattle.pb_export.specs.Rows.{AreFilled, IsFirstOf}
use Rattle.pb_export.specs.declared.templates.Template.{Template}
use Rattle.pb_export.proofs.FitLemmas.{first_at, none_more}
use Rattle.pb_export.proofs.reading.row_of.Goals as goal

pub returns-in-Some : goal.returns-in-Some
returns-in-Some c =
    let templates = c.args.templates.now in
    let line = c.args.line.now in
    let row = c.in-Some.row in
    let is = rw c.in-Some.is at c.in_ok-row.ensures.row in
    let fits = (rw c.in-Some.is at c.in_ok-row.ensures.whole).0 refl in
    let first : IsFirstOf templates row.template line =
    first_at templates c.loop-template.template-index _ row.template line c.loop-template-test.true is.template_is
    c.loop-template.invariant.none (subst (λ t. FitsTemplate t line) (sym is.template_is) fits) in (
      record {
        template_is = search rules;
        first = subst (IsFirstOf templates row.template) is.text_is first;
        line = subst (Lacks (10 ∷ [])) is.text_is c.requires;
        filled = subst (λ (t : Template). AreFilled t.slots.now row.fields.items) (sym is.template_is) is.filled;
      },
      is.text_is,
    )

pub loop-template-preserved : goal.loop-template-preserved
loop-template-preserved c =
    let fits = rw c.in_default.is at c.in_ok-row.ensures.whole in record {
      none = none_more c.args.templates.now c.loop-template.template-index _ c.args.line.now c.loop-template-test.true
          c.loop-template.invariant.none (λ is. false≢true (fits.1 is));
    }

pub returns : goal.returns
returns c =
    subst (All (λ (t : Template). FitsTemplate t c.args.line.now → ⊥))
    (take_all c.loop-template.template-index c.args.templates.now c.loop-template-test.false)
    c.loop-template.invariant.none
