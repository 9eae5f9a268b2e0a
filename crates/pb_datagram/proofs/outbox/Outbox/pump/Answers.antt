use Rattle.std.proofs.Common.{◌≡◌, ℕ, ◌+◌, ◌-◌, arith, ◌∙◌, subst}
use Rattle.pb_datagram.specs.Sending.{Departs}
use Rattle.pb_datagram.proofs.GrowthLemmas.{counts_on}
use Rattle.pb_datagram.proofs.DepartureLemmas.{departs_on}
use Rattle.pb_datagram.proofs.outbox.Outbox.pump.Goals as goal

pub loop-sends-preserved : goal.loop-sends-preserved
loop-sends-preserved g c =
    let sent = g.D.DatagramDevice.sent in
    let t = c.args.tunnel.now in
    let s = c.args.self.now in
    let m = c.loop-sends.self in
    let v = c.send_first.new.self in
    let before = g.D.DatagramDevice.failed c.args.device.now in
    let now = g.D.DatagramDevice.failed c.loop-sends.device in
    let after = g.D.DatagramDevice.failed c.send_first.new.device in
    let inv = c.loop-sends.invariant in
    let sum : (now - before) + (after - now) ≡ after - before =
    omega (arith, inv.counts.0, c.send_first.ensures.counts.0) in
    let P : ℕ → Type 0 = λ k. Departs t (c.loop-sends.count + 1) s.unsent.items v.unsent.items
    (sent c.args.device.now) (sent c.send_first.new.device) k in
    record {
      few = omega (arith, inv.few);
      departs = subst P sum (departs_on t c.loop-sends.count 1 s.unsent.items m.unsent.items v.unsent.items
          (sent c.args.device.now) (sent c.loop-sends.device) (sent c.send_first.new.device) (now - before)
          (after - now) inv.departs c.if-not-send_first.ensures.departs);
      received = c.send_first.ensures.received ∙ inv.received;
      counts = counts_on s.failed m.failed v.failed before now after inv.counts c.send_first.ensures.counts;
      capacity = c.send_first.ensures.kept.0 ∙ inv.capacity;
      shelved = c.send_first.ensures.kept.1 ∙ inv.shelved;
    }
