use Rattle.std.proofs.Common.{rules}
use Rattle.std.proofs.lemmas.Bool.{false≢true}
use Rattle.pb_export.specs.Rows.{filled_text}
use Rattle.pb_export.proofs.FitLemmas.{slots_next, slots_back, slots_end}
use Rattle.pb_export.proofs.RowLemmas.{filled_more}
use Rattle.pb_export.proofs.TextLemmas.{text_more}
use Rattle.pb_export.proofs.reading.fields_of.Goals as goal

pub returns-in_default-clause-whole : goal.returns-in_default-clause-whole
returns-in_default-clause-whole c =
    let none = rw c.in_default.is at c.in_ok-filled.ensures.whole in (
      λ e. absurd (false≢true e),
      λ fits. absurd (slots_end c.args.slots.now c.loop-slot.slot-index _ c.loop-slot.rest.now
          c.loop-slot-test.true none (c.loop-slot.invariant.next fits)),
    )

pub loop-slot-preserved : goal.loop-slot-preserved
loop-slot-preserved c =
    let got = rw c.in-Some.is at c.in_ok-filled.ensures.filled in
    let is = rw c.in-Some.is at c.in_ok-filled.ensures.whole in
    let grown = c.in_ok-push.ensures.items in
    let fields = c.loop-slot.fields.items in
    let slots = c.args.slots.now in
    let i = c.loop-slot.slot-index in
    let rest = c.loop-slot.rest.now in
    let later = c.in-Some.later.now in
    let below = c.loop-slot-test.true in
    let inv = c.loop-slot.invariant in record {
      filled = filled_more slots fields _ i _ c.in-Some.filled below inv.filled got.0 grown;
      text_is = rw grown (text_more filled_text fields c.in-Some.filled c.args.text.now rest later inv.text_is got.1);
      next = λ h. slots_next slots i _ rest later below is (inv.next h);
      back = λ h. inv.back (slots_back slots i _ rest later below is h);
      utf8 = search rules;
    }
