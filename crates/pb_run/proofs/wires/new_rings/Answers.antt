use Rattle.std.proofs.Common.{◌≡◌, [], arith}
use Rattle.pb_frame.proofs.Things.{each_more}
use Rattle.rtrb.specs.Ring.{sent, received, IsPair}
use Rattle.pb_run.proofs.wires.new_rings.Goals as goal

pub loop-number-preserved : goal.loop-number-preserved
loop-number-preserved c =
    let ring = c.in_ok-new in
    record {
      new = rw c.in_ok-push.ensures.items
          (each_more (λ n r. IsPair r.0 r.1 × (sent r.0 ≡ []) × (received r.1 ≡ [])) c.loop-number.rings.items
          ring.field-0 c.loop-number.invariant.new
          (ring.ensures.pair, ring.ensures.producer.0, ring.ensures.consumer.0));
      count = omega (arith, c.in_ok-push.ensures.len, c.loop-number.invariant.count);
    }
