use Rattle.std.proofs.Common.{◌<◌, string_bytes, subst}
use Rattle.pb_cmd_trace.specs.Summaries.{left_word}
use Rattle.pb_names.proofs.TextLemmas.{numbers_more}
use Rattle.pb_cmd_trace.proofs.summary.put_all_left.Goals as goal

pub loop-place-preserved : goal.loop-place-preserved
loop-place-preserved c =
    numbers_more (left_word c.args.plan.now c.args.rec.now) c.args.plan.now.customers c.loop-place.place
    (string_bytes c.loop-place.out) (string_bytes c.put_left.new.out) _
    (subst (λ k. c.loop-place.place < k) c.len-place-end.ensures c.loop-place-test.true) c.in_ok-put_left.ensures
    c.loop-place.invariant
