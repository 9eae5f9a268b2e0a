-- The states in which ports start, and the configuration of a new bridge.
use Rattle.std.specs.Prelude.{◌≡◌, ℕ, ◌+◌, ◌<◌, List, None, Some, map, length, slice_index_or}
use Rattle.pb_lan.specs.Ports.{port_at}
use Rattle.pb_lan.specs.Shapes.{start_by}
use Rattle.pb_lan.specs.declared.plan.CustomerPlan.{CustomerPlan}
use Rattle.pb_lan.specs.declared.plan.Plan.{Plan}
use Rattle.pb_lan.specs.declared.plan.Spanning.{Spanning}
use Rattle.pb_lan.specs.declared.shape.PortState.{PortState}
use Rattle.pb_lan.specs.declared.shape.PortState.TheVariants.{Discarding, Forwarding}
use Rattle.pb_relay.specs.LocalPorts.{IsKept}
use Rattle.pb_relay.specs.PortKinds.{LocalPort, local_of}
use Rattle.pb_relay.specs.PortKinds.LocalPort.{ToNobody}
use Rattle.pb_relay.specs.declared.ports.Local.{Local}
use Rattle.pb_relay.specs.declared.ports.Local.TheVariants.{Customer as customer_there, Bridge as bridge_there, Nobody as nobody_there}
use Rattle.pb_svlan.specs.ServiceTables.{ServiceTable, kind_at, vid_of, attached}
use Rattle.pb_svlan.specs.declared.port.Join.{Join}
use Rattle.pb_svlan.specs.declared.port.PortKind.TheVariants.{Customer}

-- the state in which a port of this kind starts
abbrev pub first_state : Spanning → Local → PortState
first_state spanning (customer_there vid pcp) = Forwarding
first_state spanning (bridge_there start) = start_by spanning start
first_state spanning nobody_there = Discarding

-- the first n local ports are configured as the plan has them
pub record KeepsPorts (plan : Plan) (number : ℕ) (ports : List LocalPort) (n : ℕ) : Type 0 where
  pub count : length ports ≡ n
  pub kept : (r : ℕ) → r < n → IsKept plan (port_at plan number (r + 1)) (slice_index_or ports r ToNobody)

-- the services are the plan's
abbrev pub HasServices : Plan → ServiceTable → Type 0
HasServices plan table = table.services ≡ map (λ s. (s.vid, s.name)) plan.services

-- the local port of a customer has joined the customer's service
pub record HasJoined (customer : CustomerPlan) (old new : ServiceTable) : Type 0 where
  pub join : Join
  pub vid : vid_of old customer.service ≡ Some join.vid
  pub pcp : join.pcp ≡ customer.pcp
  pub table : new ≡ attached old customer.port (Customer join)

-- the first n local ports are in the services as the plan has them, and the others are not in them
pub record HasAttached (plan : Plan) (number : ℕ) (table : ServiceTable) (starts : List PortState) (n : ℕ) : Type 0 where
  pub services : HasServices plan table
  pub count : length starts ≡ 16
  pub kept : (r : ℕ) → r < n → IsKept plan (port_at plan number (r + 1)) (local_of table starts (r + 1))
  pub free : (p : ℕ) → n < p → kind_at table p ≡ None
