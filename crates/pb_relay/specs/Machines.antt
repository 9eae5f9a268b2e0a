-- The spanning tree machine of a bridge.
use Rattle.std.specs.Prelude.{◌≡◌, ℕ, Bool, true, false, List, [], ◌∷◌, Some, None, unwrap_or}
use Rattle.std.specs.declared.option.Option.{Option}
use Rattle.std.specs.Option.{option_map}
use Rattle.pb_lan.specs.Numbering.{numbered}
use Rattle.pb_lan.specs.Rules.{Cause}
use Rattle.pb_lan.specs.declared.plan.Plan.{Plan}
use Rattle.pb_lan.specs.declared.plan.Spanning.{Spanning}
use Rattle.pb_lan.specs.declared.plan.Spanning.TheVariants.{Fixed, Rstp}
use Rattle.pb_lan.specs.declared.step.Step.{Step}
use Rattle.pb_rstp.specs.Ports.{Machine}
use Rattle.pb_rstp.specs.Profile.{after, machine_of, address_in}
use Rattle.pb_rstp.specs.declared.change.Change.{Change}
use Rattle.pb_rstp.specs.declared.config.RstpPort.{RstpPort}

-- a bridge has a machine if and only if the protocol decides the states
abbrev pub machine_by : Spanning → Machine → Option Machine
machine_by Fixed machine = None
machine_by Rstp machine = Some machine

-- the machine of a bridge of the plan after the bridge's steps, if it has one
unfoldable pub machine_in : Plan → ℕ → List Step → Option Machine
machine_in plan number steps = machine_by plan.spanning (machine_of plan number steps)

-- the machine after a cause
unfoldable pub machine_next : Option Machine → Cause → Option Machine
machine_next machine cause = option_map (λ m. (after m cause).machine) machine

-- what a cause changes, if the bridge has a machine
unfoldable pub change_next : Option Machine → Cause → Option Change
change_next machine cause = option_map (λ m. (after m cause).change) machine

-- the bridge's machine is the one that its steps determine, and its address is the plan's
pub record IsSpanning (plan : Plan) (number : ℕ) (steps : List Step) (machine : Option Machine) (address : List ℕ) : Type 0 where
  pub kept_machine : machine ≡ machine_in plan number steps
  pub kept_address : address ≡ address_in plan number

-- the port as a list, which is empty if there is none
abbrev pub listed : Option RstpPort → List RstpPort
listed None = []
listed (Some port) = port ∷ []

-- the protocol decides the states
abbrev pub is_by_protocol : Spanning → Bool
is_by_protocol Fixed = false
is_by_protocol Rstp = true

-- the priority of a bridge
abbrev pub priority_in : Plan → ℕ → ℕ
priority_in plan bridge = unwrap_or (option_map (λ b. b.priority) (numbered plan.bridges bridge)) 0
