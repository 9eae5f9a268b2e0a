use Rattle.pb_lan.proofs.PortBits.{no_refusals}
use Rattle.pb_lan.proofs.refusals.Refusals.new.Goals as goal

pub returns : goal.returns
returns c = no_refusals 16 1
