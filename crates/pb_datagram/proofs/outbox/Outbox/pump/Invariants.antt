use Rattle.std.proofs.Common.{◌≡◌, ◌-◌}
use Rattle.pb_datagram.specs.Devices.{CountsFailed}
use Rattle.pb_datagram.specs.Sending.{Departs}
use Rattle.pb_datagram.proofs.outbox.Outbox.pump.Given as goal

abbrev pub invariant-loop-sends : goal.invariant-loop-sends
invariant-loop-sends g l = record {
  few : l.count ≡ l.sends;
  departs : Departs l.tunnel l.count l.fn.self.unsent.items l.self.unsent.items (g.D.DatagramDevice.sent l.fn.device)
      (g.D.DatagramDevice.sent l.device)
      (g.D.DatagramDevice.failed l.device - g.D.DatagramDevice.failed l.fn.device);
  received : g.D.DatagramDevice.received l.device ≡ g.D.DatagramDevice.received l.fn.device;
  counts : CountsFailed l.fn.self.failed l.self.failed (g.D.DatagramDevice.failed l.fn.device)
      (g.D.DatagramDevice.failed l.device);
  capacity : l.self.capacity ≡ l.fn.self.capacity;
  shelved : l.self.shelved ≡ l.fn.self.shelved;
}
