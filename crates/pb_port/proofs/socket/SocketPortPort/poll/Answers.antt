use Rattle.pb_port.specs.Held.{held}
use Rattle.pb_port.proofs.DuplexLemmas.{polled_apart, output_apart}
use Rattle.pb_port.proofs.socket.SocketPortPort.poll.Goals as goal

pub returns-clause-unread : goal.returns-clause-unread
returns-clause-unread g c =
    let old = c.args.self.now in
    let new = c.poll-polled.new.self in
    let unread = g.S.Device.unread in
    polled_apart g.S.Device.is_duplex c.poll-polled.result old.frames.ended new.ended old.frames.position new.position
    (held old.frames.intake) (held new.intake) (unread old.stream) (unread c.poll-polled.new.device)
    old.frames.skipped new.skipped c.poll-polled.ensures.octets c.poll-polled.ensures.ended

pub returns-clause-output : goal.returns-clause-output
returns-clause-output g c =
    let written = g.S.Device.written in
    output_apart g.S.Device.is_duplex c.args.self.now.sender (written c.args.self.now.stream)
    (written c.poll-polled.new.device) c.poll-polled.ensures.apart
