use Rattle.std.proofs.Common.{arith}
use Rattle.pb_plan_errors.proofs.Listing.{one_more, later_error}
use Rattle.pb_plan_errors.proofs.all.put_later.Goals as goal

pub loop-round-preserved : goal.loop-round-preserved
loop-round-preserved c =
    let file = c.args.file.now in
    let later = later_error file c.in-Some.next c.in_ok-error.error (rw c.in-Some.is at c.in_ok-next.ensures)
    c.in_ok-error.ensures in
    record {
      few = omega (arith, c.in_ok-push.ensures.len);
      found = rw c.in_ok-push.ensures.items
          (one_more file c.loop-round.errors.items c.in_ok-error.error c.loop-round.invariant.found later);
    }
