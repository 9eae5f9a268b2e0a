use Rattle.std.proofs.Common.{List, ap, ◌∙◌}
use Rattle.serde_json.specs.Data.{number, unsigned}
use Rattle.serde_json.specs.Data.{Data, array}
use Rattle.serde_json.specs.View.{items_of}
use Rattle.serde_json.proofs.Views.{view-Array}
use Rattle.pb_export.proofs.ValueLemmas.{values_more, values_end}
use Rattle.pb_export.proofs.values.numbers_value.Goals as goal

pub loop-number-preserved : goal.loop-number-preserved
loop-number-preserved c =
    values_more (λ n. number (unsigned n)) c.args.numbers.now c.loop-number.number-index _ c.loop-number.values.items
    c.push.new.self.items _ c.loop-number-test.true c.from.ensures
    c.in_ok-push.ensures.items c.loop-number.invariant

pub returns : goal.returns
returns c =
    view-Array c.loop-number.values
    ∙ ap (λ (ds : List Data). array (items_of ds))
    (values_end (λ n. number (unsigned n)) c.args.numbers.now c.loop-number.number-index
    c.loop-number.values.items
    c.loop-number-test.false c.loop-number.invariant)
