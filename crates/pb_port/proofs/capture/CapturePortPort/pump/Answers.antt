use Rattle.pb_port.proofs.OutputLemmas.{pumped_output}
use Rattle.pb_port.proofs.capture.CapturePortPort.pump.Goals as goal

pub returns-clause-output : goal.returns-clause-output
returns-clause-output g c =
    let written = g.W.Device.written in
    pumped_output c.pump.result c.micros-micros.result c.args.self.now.sender c.pump.new.self
    (written c.args.self.now.writer) (written c.pump.new.device) c.pump.ensures.octets
