use Rattle.std.proofs.Common.{◌≡◌, ℕ, List, Option, None, false, refl, ◌∙◌, subst}
use Rattle.pb_datagram.specs.Receiving.{pending, Receives}
use Rattle.pb_datagram.proofs.GrowthLemmas.{counts_on}
use Rattle.pb_datagram.proofs.FindingLemmas.{receives_on, pending_none}
use Rattle.pb_datagram.proofs.inbox.Inbox.fetch.Goals as goal

pub returns-then-not-receive-clause-receives : goal.returns-then-not-receive-clause-receives
returns-then-not-receive-clause-receives g c =
    let received = g.D.DatagramDevice.received in
    let v = c.receive.new.self in
    receives_on c.args.tunnel.now (received c.args.device.now) (received c.loop-receives.device)
    (received c.receive.new.device) c.args.self.now.refusals c.loop-receives.self.refusals v.refusals (pending v)
    c.loop-receives.invariant.receives c.receive.ensures.receives

pub loop-receives-preserved : goal.loop-receives-preserved
loop-receives-preserved g c =
    let received = g.D.DatagramDevice.received in
    let failed = g.D.DatagramDevice.failed in
    let t = c.args.tunnel.now in
    let s = c.args.self.now in
    let m = c.loop-receives.self in
    let v = c.receive.new.self in
    let held : v.is_held ≡ false = c.if-not-receive.ensures.goes_on refl in
    let P : Option (List ℕ) → Type 0 = λ z. Receives t (received c.loop-receives.device)
    (received c.receive.new.device) m.refusals v.refusals z in
    let none : P None = subst P (pending_none v held) c.receive.ensures.receives in
    record {
      held = held;
      receives = receives_on t (received c.args.device.now) (received c.loop-receives.device)
          (received c.receive.new.device) s.refusals m.refusals v.refusals None c.loop-receives.invariant.receives none;
      sent = c.receive.ensures.sent ∙ c.loop-receives.invariant.sent;
      counts = counts_on s.failed m.failed v.failed (failed c.args.device.now) (failed c.loop-receives.device)
          (failed c.receive.new.device) c.loop-receives.invariant.counts c.receive.ensures.counts;
    }
