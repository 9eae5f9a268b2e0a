use Rattle.std.proofs.Common.{◌<◌, string_bytes, subst}
use Rattle.pb_cmd_report.specs.Trees.{given_rows}
use Rattle.pb_names.proofs.TextLemmas.{numbers_more}
use Rattle.pb_cmd_report.proofs.trees.put_given.Goals as goal

pub loop-place-preserved : goal.loop-place-preserved
loop-place-preserved c =
    numbers_more (given_rows c.args.plan.now c.args.shape.now) c.args.plan.now.bridges c.loop-place.place
    (string_bytes c.loop-place.out) (string_bytes c.put_given_bridge.new.out) _
    (subst (λ k. c.loop-place.place < k) c.len-place-end.ensures c.loop-place-test.true)
    c.in_ok-put_given_bridge.ensures
    c.loop-place.invariant
