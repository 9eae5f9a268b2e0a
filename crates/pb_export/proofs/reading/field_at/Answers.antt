use Rattle.std.proofs.Common.{IfOk, sym, subst}
use Rattle.pb_export.specs.Fitting.{EndsAt, IsAfterValue}
use Rattle.pb_export.proofs.FitLemmas.{both_some, single_ends}
use Rattle.pb_export.proofs.reading.field_at.Goals as goal

pub returns-in-Words-clause-whole : goal.returns-in-Words-clause-whole
returns-in-Words-clause-whole c =
    subst (λ k. IfOk c.words_field.result (EndsAt (IsAfterValue k c.args.slot.now.until.now c.args.text.now)))
    (sym c.in-Words.is) c.words_field.ensures.whole

pub returns-in-Numbers-clause-whole : goal.returns-in-Numbers-clause-whole
returns-in-Numbers-clause-whole c =
    subst (λ k. IfOk c.numbers_field.result (EndsAt (IsAfterValue k c.args.slot.now.until.now c.args.text.now)))
    (sym c.in-Numbers.is) c.numbers_field.ensures.whole

pub returns-in-Text : goal.returns-in-Text
returns-in-Text c = record {
  field = both_some _ _ c.plain_field.result c.plain_field.ensures.text c.plain_field.ensures.fits;
  whole = single_ends c.args.slot.now.kind c.args.slot.now.until.now c.args.text.now c.plain_field.result c.in-Text.is
      c.plain_field.ensures.whole;
}
