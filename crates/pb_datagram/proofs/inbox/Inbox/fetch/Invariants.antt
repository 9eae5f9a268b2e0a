use Rattle.std.proofs.Common.{◌≡◌, None, false}
use Rattle.pb_datagram.specs.Devices.{CountsFailed}
use Rattle.pb_datagram.specs.Receiving.{Receives}
use Rattle.pb_datagram.proofs.inbox.Inbox.fetch.Given as goal

abbrev pub invariant-loop-receives : goal.invariant-loop-receives
invariant-loop-receives g l = record {
  held : l.self.is_held ≡ false;
  receives : Receives l.tunnel (g.D.DatagramDevice.received l.fn.device) (g.D.DatagramDevice.received l.device)
      l.fn.self.refusals l.self.refusals None;
  sent : g.D.DatagramDevice.sent l.device ≡ g.D.DatagramDevice.sent l.fn.device;
  counts : CountsFailed l.fn.self.failed l.self.failed (g.D.DatagramDevice.failed l.fn.device)
      (g.D.DatagramDevice.failed l.device);
}
