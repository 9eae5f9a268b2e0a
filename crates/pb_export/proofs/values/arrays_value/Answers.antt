use Rattle.std.proofs.Common.{ap, ◌∙◌}
use Rattle.pb_export.specs.Documents.{words_data}
use Rattle.pb_export.proofs.ValueLemmas.{values_more}
use Rattle.pb_export.proofs.values.arrays_value.Goals as goal

pub loop-group-preserved : goal.loop-group-preserved
loop-group-preserved c =
    values_more (λ g. words_data g.items) c.args.groups.now c.loop-group.group-index c.group-item.result
    c.loop-group.values.items c.push.new.self.items _ c.loop-group-test.true
    (c.in_ok-words_value.ensures ∙ ap words_data c.as_slice.ensures.value ∙ ap (λ g. words_data g.items)
    c.group-item.is)
    c.in_ok-push.ensures.items c.loop-group.invariant
