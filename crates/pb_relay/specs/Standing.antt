-- How a bridge's state follows from its steps.
use Rattle.std.specs.Prelude.{◌≡◌, ◌⊎◌, ◌==◌, if◌then◌else◌, ℕ, ◌+◌, ◌<◌, ◌≤◌, Bool, true, false, List, [], ◌∷◌, ◌++◌, length, slice_index_or}
use Rattle.std.specs.List.{AllByRecursion, filter}
use Rattle.pb_frame.specs.Stations.{Sighting, is_fresh, standing}
use Rattle.pb_lan.specs.Shapes.{states_after}
use Rattle.pb_relay.specs.Protocol.{spanning_tree}
use Rattle.pb_lan.specs.Queues.{Waiting, waiting}
use Rattle.pb_lan.specs.Choice.{now_after, news_of}
use Rattle.pb_lan.specs.BridgeLists.{IsLawfulBridge, Fits}
use Rattle.pb_lan.specs.declared.plan.Plan.{Plan}
use Rattle.pb_lan.specs.declared.shape.PortState.{PortState}
use Rattle.pb_lan.specs.declared.step.Item.{Item}
use Rattle.std.specs.declared.option.Option.{Option}
use Rattle.pb_frame.specs.declared.learnt.Learnt.{Learnt}
use Rattle.pb_lan.specs.declared.step.Moved.{Moved}
use Rattle.pb_lan.specs.declared.step.Outcome.{Outcome}
use Rattle.pb_lan.specs.declared.step.Step.{Step}
use Rattle.pb_lan.specs.declared.step.Step.TheVariants.{Receive}
use Rattle.pb_relay.specs.Classes.{by_class}
use Rattle.pb_lan.specs.Queues.{capacity_of, is_own}
use Rattle.pb_lan.specs.declared.plan.Queues.{Queues}
use Rattle.pb_lan.specs.declared.plan.Queues.TheVariants.{PerPort, PerClass}

-- what callers see of a bridge: the plan, its number there, its steps, whether each is kept in memory, and whether a
-- step is reserved
pub record BridgeView : Type 0 where
  pub plan : Plan
  pub number : ℕ
  pub steps : List Step
  pub is_kept : Bool
  pub is_reserved : Bool

-- the waiting item is in a traffic class, or is a BPDU of the bridge in the place of its own
abbrev pub IsClassed : Waiting → Type 0
IsClassed w = (w.class < 8) ⊎ (is_own w ≡ true)

-- each waiting item is
abbrev pub AreClassed : List Waiting → Type 0
AreClassed ws = AllByRecursion IsClassed ws

-- at most this many items wait, of all classes together, or of each traffic class and at most one BPDU of the bridge
abbrev pub AreWithin : Queues → ℕ → List Waiting → Type 0
AreWithin PerPort most ws = length ws ≤ most
AreWithin PerClass most ws = (class : ℕ) → length (filter (λ w. w.class == class) ws) ≤ (if class == 8 then 1 else most)

-- the steps are lawful, and the states, the queues, the clock and the learning table are those that the steps determine
pub record IsStanding (plan : Plan) (number : ℕ) (steps : List Step) (states : List PortState) (queues : List (List (List Item))) (now : ℕ) (table : List Sighting) : Type 0 where
  pub lawful : IsLawfulBridge spanning_tree plan number steps
  pub kept_states : states ≡ states_after plan number steps
  pub count : length queues ≡ 16
  pub kept_queues : (r : ℕ) → r < 16 → slice_index_or queues r [] ≡ by_class (waiting plan number (r + 1) steps)
  pub classes : (r : ℕ) → AreClassed (waiting plan number r steps)
  pub within : (r : ℕ) → AreWithin plan.queues (capacity_of plan number) (waiting plan number r steps)
  pub clock : now ≡ now_after steps
  pub stations : filter (is_fresh plan.ageing now) table ≡ standing plan.ageing now (news_of plan number steps)

-- the steps are at most as many as the limit, and fewer if a step is reserved
pub record HasRoom (steps : List Step) (limit : ℕ) (is_reserved : Bool) : Type 0 where
  pub within : length steps ≤ limit
  pub reserved : is_reserved ≡ true → length steps < limit

-- a bridge that has taken no step
abbrev pub at_start : Plan → ℕ → Bool → BridgeView
at_start plan number is_kept = record { plan = plan; number = number; steps = []; is_kept = is_kept; is_reserved = false }

-- the bridge with one more step, and none reserved
abbrev pub with_step : BridgeView → Step → BridgeView
with_step b step = record b { steps = b.steps ++ step ∷ []; is_reserved = false }

-- the bridge has appended the one step of the item received at the port, with this outcome, and the step may come there
abbrev pub HasReceived : BridgeView → ℕ → Item → Outcome → BridgeView → Type 0
HasReceived old port item outcome new =
    (learnt : Option Learnt) × (moved : Option Moved)
    × (new ≡ with_step old (Receive port item learnt outcome moved))
    × Fits spanning_tree old.plan old.number old.steps (Receive port item learnt outcome moved)

-- the bridge has appended this one step of the item received at the port, and the step may come there
abbrev pub HasCounted : BridgeView → ℕ → Item → Step → BridgeView → Type 0
HasCounted old port item step new =
    (learnt : Option Learnt) × (outcome : Outcome) × (moved : Option Moved)
    × (step ≡ Receive port item learnt outcome moved) × (new ≡ with_step old step) × Fits spanning_tree old.plan old.number old.steps step
