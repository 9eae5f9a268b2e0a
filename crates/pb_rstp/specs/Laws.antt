-- Laws of a bridge's roles and states.
use Rattle.std.specs.Prelude.{◌≡◌, ℕ, ◌≤◌, Bool, List, true, false}
use Rattle.std.specs.List.{AllByRecursion}
use Rattle.pb_lan.specs.Rules.{Cause}
use Rattle.pb_rstp.specs.Ports.{Machine, start, is_root_or_designated, is_discarding}
use Rattle.pb_rstp.specs.declared.port.Port.{Port}
use Rattle.pb_rstp.specs.Roles.{HasRoles}
use Rattle.pb_rstp.specs.Profile.{after}
use Rattle.pb_rstp.specs.declared.config.RstpPort.{RstpPort}

-- a port that is neither Root nor Designated is Discarding (clause 17.29)
abbrev pub IsQuiet : Port → Type 0
IsQuiet p = is_root_or_designated p.role ≡ false → is_discarding p.state ≡ true

-- each port has the role that follows from what all ports store, and only Root and Designated ports learn or forward
pub record IsInLine (machine : Machine) : Type 0 where
  pub roles : HasRoles machine.id machine.ports
  pub states : AllByRecursion IsQuiet machine.ports

-- a bridge is in line at the start
abbrev pub StartIsInLine : Type 0
StartIsInLine =
    (prompt : Bool) (id : ℕ) (ports : List RstpPort) → AllByRecursion (λ p. 1 ≤ p.port) ports
    → IsInLine (start prompt id ports)

-- a bridge that is in line is in line after every call
abbrev pub CallsKeepLine : Type 0
CallsKeepLine = (machine : Machine) (cause : Cause) → IsInLine machine → IsInLine (after machine cause).machine
