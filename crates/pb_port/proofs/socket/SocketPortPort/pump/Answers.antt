use Rattle.pb_port.proofs.DuplexLemmas.{pumped_apart, unread_apart}
use Rattle.pb_port.proofs.socket.SocketPortPort.pump.Goals as goal

pub returns-clause-output : goal.returns-clause-output
returns-clause-output g c =
    let written = g.S.Device.written in
    pumped_apart g.S.Device.is_duplex c.pump.result c.args.now c.args.self.now.sender c.pump.new.self
    (written c.args.self.now.stream) (written c.pump.new.device) (rw c.from.ensures at c.pump.ensures.octets)

pub returns-clause-unread : goal.returns-clause-unread
returns-clause-unread g c =
    let unread = g.S.Device.unread in
    unread_apart g.S.Device.is_duplex c.args.self.now.frames (unread c.args.self.now.stream)
    (unread c.pump.new.device) c.pump.ensures.apart
