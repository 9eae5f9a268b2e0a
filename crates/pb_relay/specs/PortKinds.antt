-- The kinds and services of the local ports of a bridge.
use Rattle.std.specs.Prelude.{ℕ, ◌-◌, ◌==◌, Bool, List, map, Some, None, slice_index_or}
use Rattle.std.specs.List.{list_any}
use Rattle.std.specs.declared.option.Option.{Option}
use Rattle.pb_lan.specs.Ports.{local_ports}
use Rattle.pb_lan.specs.declared.shape.PortState.{PortState}
use Rattle.pb_lan.specs.declared.shape.PortState.TheVariants.{Discarding}
use Rattle.pb_svlan.specs.ServiceTables.{ServiceTable, kind_at}
use Rattle.pb_svlan.specs.declared.port.PortKind.{PortKind}
use Rattle.pb_svlan.specs.declared.port.PortKind.TheVariants.{Customer, Trunk}
use Rattle.pb_relay.specs.declared.ports.Local.{Local}
use Rattle.pb_relay.specs.declared.ports.Local.TheVariants.{Customer as customer_there, Bridge as bridge_there, Nobody as nobody_there}

-- a customer port with the VID of its service and the priority of frames without a tag, a port to another bridge with
-- its start state and the VIDs of its services, or an unused port
pub data LocalPort : Type 0 where
  ToCustomer : (vid pcp : ℕ) → LocalPort
  ToBridge : (start : PortState) → (vids : List ℕ) → LocalPort
  ToNobody : LocalPort

-- the VIDs of the services of a port to another bridge: those of the list, or all
abbrev pub vids_of : ServiceTable → Option (List ℕ) → List ℕ
vids_of table None = map (λ s. s.0) table.services
vids_of table (Some vids) = vids

-- the list has the VID
abbrev pub serves_of : List ℕ → ℕ → Bool
serves_of vids vid = list_any (λ w. w == vid) vids

-- the local port of this kind in the services, with its start state
abbrev pub local_as : ServiceTable → PortState → Option PortKind → LocalPort
local_as table start None = ToNobody
local_as table start (Some (Customer join)) = ToCustomer join.vid join.pcp
local_as table start (Some (Trunk vids)) = ToBridge start (vids_of table vids)

-- the local port of this number, by the services and the start states
abbrev pub local_of : ServiceTable → List PortState → ℕ → LocalPort
local_of table starts port = local_as table (slice_index_or starts (port - 1) Discarding) (kind_at table port)

-- all local ports, by the services and the start states
unfoldable pub locals : ServiceTable → List PortState → List LocalPort
locals table starts = map (local_of table starts) local_ports

-- the kind of a local port, as the code has it
abbrev pub told : LocalPort → Local
told (ToCustomer vid pcp) = customer_there vid pcp
told (ToBridge start vids) = bridge_there start
told ToNobody = nobody_there

-- the kind of a local port, as the code has it, by its kind in the services
abbrev pub told_as : PortState → PortKind → Local
told_as start (Customer join) = customer_there join.vid join.pcp
told_as start (Trunk vids) = bridge_there start
