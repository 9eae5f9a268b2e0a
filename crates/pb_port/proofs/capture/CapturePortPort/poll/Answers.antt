use Rattle.pb_port.specs.Held.{held}
use Rattle.pb_port.proofs.InputLemmas.{polled_frames}
use Rattle.pb_port.proofs.capture.CapturePortPort.poll.Goals as goal

pub returns-clause-unread : goal.returns-clause-unread
returns-clause-unread g c =
    let old = c.args.self.now in
    let new = c.poll-polled.new.self in
    let unread = g.R.Device.unread in
    polled_frames c.poll-polled.result old.frames.ended new.ended old.frames.position new.position
    (held old.frames.intake) (held new.intake) (unread old.reader) (unread c.poll-polled.new.device)
    old.frames.skipped new.skipped c.poll-polled.ensures.octets c.poll-polled.ensures.ended
