use Rattle.std.proofs.Common.{take}
use Rattle.pb_datagram.specs.Receiving.{pending}
use Rattle.pb_datagram.proofs.FindingLemmas.{receives_one}
use Rattle.pb_datagram.proofs.inbox.Inbox.receive.Goals as goal

pub returns-in-Moved-clause-receives : goal.returns-in-Moved-clause-receives
returns-in-Moved-clause-receives g c =
    let s = c.args.self.now in
    let v = c.judge.new.self in
    receives_one c.args.tunnel.now (g.D.DatagramDevice.received c.args.device.now)
    (g.D.DatagramDevice.received c.receive_into.new.device) (g.D.DatagramDevice.received c.judge.new.device)
    (c.in-Moved.sender, take c.in-Moved.len c.receive_into.new.buf.items) s.refusals v.refusals (pending v)
    c.in-Moved.ensures.received c.judge.ensures.device.0 c.judge.ensures.finds
