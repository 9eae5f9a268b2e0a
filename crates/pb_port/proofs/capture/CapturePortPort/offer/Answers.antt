use Rattle.pb_port.proofs.OutputLemmas.{output_same}
use Rattle.pb_port.proofs.capture.CapturePortPort.offer.Goals as goal

pub returns-clause-output : goal.returns-clause-output
returns-clause-output g c =
    output_same c.args.self.now.sender c.offer-offered.new.self (g.W.Device.written c.args.self.now.writer)
    c.offer-offered.ensures.begun
