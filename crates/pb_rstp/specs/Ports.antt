-- The variables of a bridge and of each port (IEEE 802.1D-2004 clauses 17.18 and 17.19).
use Rattle.std.specs.Prelude.{ℕ, ◌/◌, Bool, true, false, List, Some, None, map, max, ◌==◌}
use Rattle.std.specs.declared.option.Option.{Option}
use Rattle.std.specs.Option.{option_map, option_and_then}
use Rattle.pb_frame.specs.Lists.{first}
use Rattle.pb_lan.specs.declared.shape.PortState.{PortState}
use Rattle.pb_lan.specs.declared.shape.PortState.TheVariants.{Discarding, Learning, Forwarding}
use Rattle.pb_rstp.specs.Vectors.{port_id, raised}
use Rattle.pb_rstp.specs.declared.config.RstpPort.{RstpPort}
use Rattle.pb_rstp.specs.declared.port.Info.{Info}
use Rattle.pb_rstp.specs.declared.port.Port.{Port}
use Rattle.pb_rstp.specs.declared.vector.Vector.{Vector}
use Rattle.pb_rstp.specs.declared.role.Role.{Role}
use Rattle.pb_rstp.specs.declared.role.Role.TheVariants.{Disabled, Root, Designated, Alternate, Backup}

-- the spanning tree variables of a bridge: its identifier, whether it sends at once, its ports, and helloWhen
pub record Machine : Type 0 where
  pub id : ℕ
  pub prompt : Bool
  pub ports : List Port
  pub hello_when : ℕ

-- the role is Root
abbrev pub is_root : Role → Bool
is_root Root = true
is_root Disabled = false
is_root Designated = false
is_root Alternate = false
is_root Backup = false

-- the role is Designated
abbrev pub is_designated : Role → Bool
is_designated Designated = true
is_designated Disabled = false
is_designated Root = false
is_designated Alternate = false
is_designated Backup = false

-- the role is Root or Designated: the port is in the tree
abbrev pub is_root_or_designated : Role → Bool
is_root_or_designated Root = true
is_root_or_designated Designated = true
is_root_or_designated Disabled = false
is_root_or_designated Alternate = false
is_root_or_designated Backup = false

-- the state is Discarding
abbrev pub is_discarding : PortState → Bool
is_discarding Discarding = true
is_discarding Learning = false
is_discarding Forwarding = false

-- the identifier of a port (clause 9.2.7)
abbrev pub id_of : Port → ℕ
id_of p = port_id p.priority p.number

-- the port priority vector: what the port has received and stored (clause 17.19.21)
abbrev pub stored_vector : Port → Info → Vector
stored_vector p info = record { root = info.root; cost = info.cost; bridge = info.bridge; port = info.port; receiving = id_of p }

-- the port priority vector, if the port stores one
abbrev pub stored : Port → Option Vector
stored p = option_map (stored_vector p) p.info

-- the root path priority vector: the path to the root through this port (clause 17.6)
abbrev pub root_path : Port → Info → Vector
root_path p info = record { root = info.root; cost = raised info.cost p.cost; bridge = info.bridge; port = info.port; receiving = id_of p }

-- the designated priority vector, which the port offers to its link if the bridge has this root vector (clause 17.6)
abbrev pub designated_vector : ℕ → Vector → Port → Vector
designated_vector id root p = record { root = root.root; cost = root.cost; bridge = id; port = id_of p; receiving = id_of p }

-- the port with this number
abbrev pub port_of : List Port → ℕ → Option Port
port_of ports number = first (λ p. p.number == number) ports

-- the information that the Root port stores, if the bridge has a Root port
abbrev pub root_info : List Port → Option Info
root_info ports = option_and_then (λ p. p.info) (first (λ p. is_root p.role) ports)

-- FwdDelay in ticks from the stored Forward Delay, or 15 if the bridge is the root (clause 17.20.6)
abbrev pub fwd_delay_by : Option Info → ℕ
fwd_delay_by None = 15
fwd_delay_by (Some info) = max 1 (info.forward_delay / 256)

-- FwdDelay: the ticks for which a port stays Discarding and then Learning (clause 17.20.6)
abbrev pub fwd_delay_of : List Port → ℕ
fwd_delay_of ports = fwd_delay_by (root_info ports)

-- a port at the start: enabled, Designated and Discarding, with a BPDU to send
abbrev pub fresh : RstpPort → Port
fresh p = record {
  number = p.port;
  cost = p.cost;
  priority = p.priority;
  port_enabled = true;
  info = None;
  role = Designated;
  state = Discarding;
  fd_while = 15;
  agreed = false;
  agree = false;
  tc_while = 0;
  tx_count = 0;
  new_info = true;
}

-- a bridge at the start
abbrev pub start : Bool → ℕ → List RstpPort → Machine
start prompt id ports = record { id = id; prompt = prompt; ports = map fresh ports; hello_when = 2 }
