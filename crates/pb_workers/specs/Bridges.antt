-- The local ports of a bridge that has a worker.
use Rattle.std.specs.Prelude.{◌≡◌, ℕ, ◌<◌, ◌≤◌, Bool, true, ◌==◌, if◌then◌else◌, Some, None, unwrap_or, List, All}
use Rattle.std.specs.Option.{option_map}
use Rattle.std.specs.declared.option.Option.{Option}
use Rattle.pb_frame.specs.Lists.{first}
use Rattle.pb_lan.specs.Numbering.{numbered}
use Rattle.pb_lan.specs.Ports.{port_at, is_used, is_provider}
use Rattle.pb_lan.specs.Shapes.{states_after}
use Rattle.pb_lan.specs.declared.shape.PortState.TheVariants.{Discarding}
use Rattle.pb_relay.specs.Machines.{machine_in}
use Rattle.pb_relay.specs.declared.bridge.Bridge.{Bridge}
use Rattle.pb_rstp.specs.Ports.{Machine}
use Rattle.pb_rstp.specs.Readings.{roles_of}
use Rattle.pb_rstp.specs.declared.role.Role.{Role}
use Rattle.pb_threads.specs.declared.view.PortView.{PortView}
use Rattle.pb_lan.specs.declared.plan.Plan.{Plan}

-- the plan uses each of these local ports of the bridge, and there are rings for them
abbrev pub AreUsed : Plan → ℕ → ℕ → List ℕ → Type 0
AreUsed plan bridge count ports = All (λ port. (0 < port) × (port ≤ count) × (is_used (port_at plan bridge port) ≡ true)) ports

-- the entry of a list of roles is that of this port
abbrev pub is_of_port : ℕ → ℕ × Role → Bool
is_of_port port entry = entry.0 == port

abbrev pub role_among : List (ℕ × Role) → ℕ → Option Role
role_among roles port = option_map (λ entry. entry.1) (first (is_of_port port) roles)

abbrev pub role_in : Option Machine → ℕ → Option Role
role_in None port = None
role_in (Some machine) port = role_among (roles_of machine.ports) port

-- the view of a port after the steps that the bridge took: none if the port leads to no other bridge
abbrev pub view_of : Bridge → ℕ → Option PortView
view_of bridge port = if is_provider (port_at bridge.plan bridge.number port)
    then Some (record {
      role = role_in (machine_in bridge.plan bridge.number bridge.steps) port;
      state = unwrap_or (numbered (states_after bridge.plan bridge.number bridge.steps) port) Discarding;
    })
    else None
