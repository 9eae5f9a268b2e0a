use Rattle.std.proofs.Common.{List, ap, ◌∙◌}
use Rattle.serde_json.specs.Data.{string}
use Rattle.serde_json.specs.Data.{Data, array}
use Rattle.serde_json.specs.View.{items_of}
use Rattle.serde_json.proofs.Views.{view-Array}
use Rattle.pb_export.proofs.ValueLemmas.{values_more, values_end}
use Rattle.pb_export.proofs.values.words_value.Goals as goal

pub loop-word-preserved : goal.loop-word-preserved
loop-word-preserved c =
    values_more (λ w. string w.now) c.args.words.now c.loop-word.word-index _ c.loop-word.values.items
    c.push.new.self.items _ c.loop-word-test.true c.in_ok-try_from_str.ensures
    c.in_ok-push.ensures.items c.loop-word.invariant

pub returns : goal.returns
returns c =
    view-Array c.loop-word.values
    ∙ ap (λ (ds : List Data). array (items_of ds))
    (values_end (λ w. string w.now) c.args.words.now c.loop-word.word-index c.loop-word.values.items
    c.loop-word-test.false c.loop-word.invariant)
