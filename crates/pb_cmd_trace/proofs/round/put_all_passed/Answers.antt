use Rattle.std.proofs.Common.{◌<◌, string_bytes, subst}
use Rattle.pb_cmd_trace.specs.Summaries.{passed_word}
use Rattle.pb_names.proofs.TextLemmas.{numbers_more}
use Rattle.pb_cmd_trace.proofs.round.put_all_passed.Goals as goal

pub loop-place-preserved : goal.loop-place-preserved
loop-place-preserved c =
    numbers_more (passed_word c.args.plan.now c.args.rec.now c.args.frame) c.args.plan.now.links c.loop-place.place
    (string_bytes c.loop-place.out) (string_bytes c.put_passed.new.out) _
    (subst (λ k. c.loop-place.place < k) c.len-place-end.ensures c.loop-place-test.true) c.in_ok-put_passed.ensures
    c.loop-place.invariant
