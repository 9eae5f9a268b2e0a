use Rattle.pb_lan.proofs.PortBits.{no_ports}
use Rattle.pb_lan.proofs.port_set.PortSet.new.Goals as goal

pub returns : goal.returns
returns c = no_ports 16 1
