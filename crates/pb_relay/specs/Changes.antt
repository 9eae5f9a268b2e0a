-- Ticks of a bridge's clock, and ports that are enabled or disabled.
use Rattle.std.specs.Prelude.{◌≡◌, ℕ, ◌+◌, Bool, true, false, List, [], ◌∷◌}
use Rattle.pb_lan.specs.Rules.{planned_change, from_to}
use Rattle.pb_relay.specs.Protocol.{spanning_tree}
use Rattle.pb_lan.specs.Rules.Cause.{Sets}
use Rattle.pb_lan.specs.Choice.{now_after}
use Rattle.pb_lan.specs.BridgeLists.{Fits}
use Rattle.pb_lan.specs.declared.plan.Plan.{Plan}
use Rattle.pb_lan.specs.declared.shape.PortState.{PortState}
use Rattle.pb_lan.specs.declared.shape.PortState.TheVariants.{Discarding}
use Rattle.pb_lan.specs.declared.step.Moved.{Moved}
use Rattle.pb_lan.specs.declared.step.Step.{Step}
use Rattle.pb_lan.specs.declared.step.Step.TheVariants.{Tick, Admin}
use Rattle.pb_relay.specs.Standing.{BridgeView, with_step}
use Rattle.pb_relay.specs.declared.ports.Local.{Local}
use Rattle.pb_relay.specs.declared.ports.Local.TheVariants.{Customer as customer_there, Bridge as bridge_there, Nobody as nobody_there}

-- a report of no change
abbrev pub unmoved : Moved
unmoved = record { states = []; flushed = []; queued = []; replaced = []; dropped = [] }

-- the bridge has appended one Tick step, which may come there
abbrev pub HasTicked : BridgeView → BridgeView → Type 0
HasTicked old new =
    (moved : Moved) × (new ≡ with_step old (Tick (now_after old.steps + 1) moved))
    × Fits spanning_tree old.plan old.number old.steps (Tick (now_after old.steps + 1) moved)

-- the changes of a port that is enabled or disabled, if the plan gives the states
abbrev pub moved_by_setting : Plan → ℕ → List Step → ℕ → Bool → Moved
moved_by_setting plan number steps port up = record {
  states = (planned_change plan number steps (Sets port up)).states;
  flushed = (planned_change plan number steps (Sets port up)).flushed;
  queued = [];
  replaced = [];
  dropped = [];
}

-- the bridge has appended the Admin step of the port that is enabled or disabled, which may come there
abbrev pub HasSet : BridgeView → ℕ → Bool → BridgeView → Type 0
HasSet old port up new =
    (moved : Moved) × (new ≡ with_step old (Admin port up moved))
    × Fits spanning_tree old.plan old.number old.steps (Admin port up moved)

-- the state of a port after it is enabled or disabled
abbrev pub state_set : Local → Bool → PortState
state_set (bridge_there start) true = start
state_set (bridge_there start) false = Discarding
state_set (customer_there vid pcp) up = Discarding
state_set nobody_there up = Discarding

-- a port that is disabled is flushed
abbrev pub ports_flushed : ℕ → Bool → List ℕ
ports_flushed port true = []
ports_flushed port false = port ∷ []

-- the changes of a port that is enabled or disabled and goes from one state to another
abbrev pub moved_to : ℕ → Bool → PortState → PortState → Moved
moved_to port up old new = record { states = from_to port old new; flushed = ports_flushed port up; queued = []; replaced = []; dropped = [] }
