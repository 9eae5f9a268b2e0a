-- What a caller can read of a bridge's spanning tree.
use Rattle.std.specs.Prelude.{◌≡◌, ℕ, List, map}
use Rattle.std.specs.declared.option.Option.{Option}
use Rattle.std.specs.Option.{option_map, option_and_then}
use Rattle.pb_lan.specs.declared.shape.PortState.{PortState}
use Rattle.pb_rstp.specs.Ports.{Machine, port_of, stored, designated_vector}
use Rattle.pb_rstp.specs.Rising.{AreRising}
use Rattle.pb_rstp.specs.Roles.{root_vector}
use Rattle.pb_rstp.specs.Laws.{IsInLine}
use Rattle.pb_rstp.specs.declared.config.RstpPort.{RstpPort}
use Rattle.pb_rstp.specs.declared.port.Port.{Port}
use Rattle.pb_rstp.specs.declared.role.Role.{Role}
use Rattle.pb_rstp.specs.declared.vector.Vector.{Vector}

-- the ports' numbers rise strictly, and each is above n
abbrev pub AreAbove : ℕ → List RstpPort → Type 0
AreAbove n ports = AreRising n (map (λ p. p.port) ports)

-- the role of each port, with the port's number
abbrev pub roles_of : List Port → List (ℕ × Role)
roles_of ports = map (λ p. (p.number, p.role)) ports

-- the state of each port, with the port's number
abbrev pub states_of : List Port → List (ℕ × PortState)
states_of ports = map (λ p. (p.number, p.state)) ports

-- the root priority vector of a bridge (clause 17.6)
abbrev pub root_of : Machine → Vector
root_of machine = root_vector machine.id machine.ports

-- the designated priority vector of the port with this number (clause 17.6)
abbrev pub vector_at : Machine → ℕ → Option Vector
vector_at machine number = option_map (designated_vector machine.id (root_of machine)) (port_of machine.ports number)

-- the port priority vector that the port with this number stores (clause 17.19.21)
abbrev pub stored_at : Machine → ℕ → Option Vector
stored_at machine number = option_and_then stored (port_of machine.ports number)

-- the numbers of a bridge's ports
abbrev pub numbers_of : Machine → List ℕ
numbers_of machine = map (λ p. p.number) machine.ports

-- the roles and states that a caller reads are the bridge's, and its ports have rising numbers, their roles and their
-- states
pub record IsTold (machine : Machine) (told_roles : List (ℕ × Role)) (told_states : List (ℕ × PortState)) : Type 0 where
  pub roles : told_roles ≡ roles_of machine.ports
  pub states : told_states ≡ states_of machine.ports
  pub by_number : AreRising 0 (numbers_of machine)
  pub in_line : IsInLine machine
