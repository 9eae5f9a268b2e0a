use Rattle.pb_port.proofs.DuplexLemmas.{offered_apart}
use Rattle.pb_port.proofs.socket.SocketPortPort.offer.Goals as goal

pub returns-clause-output : goal.returns-clause-output
returns-clause-output g c =
    offered_apart g.S.Device.is_duplex c.args.self.now.sender c.offer-offered.new.self
    (g.S.Device.written c.args.self.now.stream) c.offer-offered.ensures.begun
