-- The bridges of a plan after any steps, and the spanning tree that they form once they have converged.
use Rattle.std.specs.Prelude.{◌≡◌, ℕ, true, List, length, not}
use Rattle.std.specs.List.{AllByRecursion}
use Rattle.std.specs.Option.{option_map_or}
use Rattle.pb_frame.specs.Frames.{AreOctets}
use Rattle.pb_lan.specs.Numbering.{numbered}
use Rattle.pb_lan.specs.Plans.{IsSound}
use Rattle.pb_lan.specs.declared.plan.Plan.{Plan}
use Rattle.pb_lan.specs.declared.step.Step.{Step}
use Rattle.pb_rstp.specs.Ports.{Machine, port_of}
use Rattle.pb_rstp.specs.Tree.{IsConverged, NoneHeld, machines_of}
use Rattle.pb_spanning_tree.specs.Laws.{ArePlanned, AreTree}
use Rattle.pb_spanning_tree.specs.TreeOf.{Disabling}

-- the port with the second number of the bridge with the first one is disabled, or is not there
abbrev pub disabled_by : List Machine → Disabling
disabled_by machines bridge port =
    option_map_or (λ m. option_map_or (λ p. not p.port_enabled) (port_of m.ports port) true)
    (numbered machines bridge) true

-- each bridge's address has six octets
abbrev pub HasAddresses : Plan → Type 0
HasAddresses plan = AllByRecursion (λ b. (length b.address.0 ≡ 6) × AreOctets b.address.0) plan.bridges

-- after any steps the bridges are those of the plan, with its identifiers, ports and priorities
abbrev pub PlannedArePlanned : Type 0
PlannedArePlanned =
    (plan : Plan) (past : ℕ → List Step) → IsSound plan → HasAddresses plan → ArePlanned plan (machines_of plan past)

-- after any steps, bridges that have converged form the spanning tree of the plan and their own disabled ports
abbrev pub ConvergedTree : Type 0
ConvergedTree =
    (plan : Plan) (past : ℕ → List Step) → IsSound plan → HasAddresses plan → IsConverged plan (machines_of plan past)
    → NoneHeld (machines_of plan past)
    → AreTree plan (machines_of plan past) (disabled_by (machines_of plan past))
