use Rattle.pb_port.specs.Inputs.{each_is_read}
use Rattle.pb_port.proofs.laws.inputs_have_a_reading.Goals as goal

pub returns : goal.returns
returns c = each_is_read
