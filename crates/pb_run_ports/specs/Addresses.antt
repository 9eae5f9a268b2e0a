-- The addresses that ports bind.
use Rattle.std.specs.Prelude.{◌≡◌, Bool, false, List, All, ⊤}
use Rattle.std.specs.List.{HoldsAt}
use Rattle.std.specs.Net.Addr.{MatchIp, IsLoopbackV4, IsLoopbackV6}
use Rattle.std.specs.Net.Socket.{socket_ip}
use Rattle.std.specs.declared.net.SocketAddr.{SocketAddr}
use Rattle.pb_run_ports.specs.declared.open_fault.ExposedPort.{ExposedPort}
use Rattle.pb_run_ports.specs.declared.open_fault.OpenFault.{OpenFault}
use Rattle.pb_run_ports.specs.declared.open_fault.OpenFault.TheVariants.{Exposed}
use Rattle.pb_service.specs.declared.port_spec.PortSpec.{PortSpec}
use Rattle.pb_service.specs.declared.port_spec.PortSpec.TheVariants.{Udp}

-- an address that no other host reaches
abbrev pub IsLoopback : SocketAddr → Type 0
IsLoopback address = MatchIp (socket_ip address) IsLoopbackV4 IsLoopbackV6

-- if a port binds an address, it is loopback
abbrev pub IsInside : PortSpec → Type 0
IsInside (Udp local remote network) = IsLoopback local
IsInside other = ⊤

-- a port binds this address, which is not loopback
abbrev pub Exposes : PortSpec → SocketAddr → Type 0
Exposes (Udp local remote network) address = (address ≡ local) × ¬ IsLoopback local
Exposes other address = ⊥

-- the port at this place binds this address, which is not loopback
abbrev pub IsExposed : List PortSpec → ExposedPort → Type 0
IsExposed specs port = HoldsAt (λ spec. Exposes spec port.local) specs port.place

-- the ports may be opened: each address that they bind is loopback, or the network is allowed
abbrev pub Admits : Bool → List PortSpec → Type 0
Admits allows_network specs = allows_network ≡ false → All IsInside specs

-- the fault names a port that binds an address that is not loopback, and the network is not allowed
abbrev pub IsExposure : Bool → List PortSpec → OpenFault → Type 0
IsExposure allows_network specs (Exposed port) = (allows_network ≡ false) × IsExposed specs port
IsExposure allows_network specs other = ⊥
