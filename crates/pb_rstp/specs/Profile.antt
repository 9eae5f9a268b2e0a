-- The rapid spanning tree of a plan's bridges, as rules for the model of networks.
use Rattle.std.specs.Prelude.{ℕ, List, [], ◌∷◌, map, unwrap_or, Ok, Err}
use Rattle.std.specs.declared.result.Result.{Result}
use Rattle.std.specs.List.{flat_map}
use Rattle.std.specs.Option.{option_map}
use Rattle.pb_bpdu.specs.Layout.{written}
use Rattle.pb_bpdu.specs.Reading.{reading, is_readable}
use Rattle.pb_bpdu.specs.declared.bpdu.Bpdu.{Bpdu}
use Rattle.pb_bpdu.specs.declared.fault.BpduFault.{BpduFault}
use Rattle.pb_lan.specs.Numbering.{numbered}
use Rattle.pb_lan.specs.Ports.{Port as LocalPort, port_at, local_ports}
use Rattle.pb_lan.specs.Ports.Port.{Customer, Provider, Unused}
use Rattle.pb_lan.specs.Rules.{Rules, Cause, Change as LanChange}
use Rattle.pb_lan.specs.Rules.Cause.{Hears, Ticks, Sets}
use Rattle.pb_lan.specs.declared.plan.Plan.{Plan}
use Rattle.pb_lan.specs.declared.plan.BridgePlan.{BridgePlan}
use Rattle.pb_lan.specs.declared.step.Item.{Item}
use Rattle.pb_lan.specs.declared.step.Outcome.{Outcome}
use Rattle.pb_lan.specs.declared.step.Outcome.TheVariants.{Relayed, Filtered, Heard}
use Rattle.pb_lan.specs.declared.step.Step.{Step}
use Rattle.pb_lan.specs.declared.step.Step.TheVariants.{Receive, Tick, Admin}
use Rattle.pb_rstp.specs.Vectors.{bridge_id}
use Rattle.pb_rstp.specs.Ports.{Machine, start}
use Rattle.pb_rstp.specs.Machine.{After, after_hear, after_tick, after_admin, unchanged}
use Rattle.pb_rstp.specs.declared.change.Change.{Change}
use Rattle.pb_rstp.specs.declared.config.RstpPort.{RstpPort}

-- what a bridge does with a received frame: it processes a valid BPDU, and ignores any other
abbrev pub hear_read : Machine → ℕ → Result Bpdu BpduFault → After
hear_read machine port (Ok m) = after_hear machine port m
hear_read machine port (Err fault) = unchanged machine

-- the bridge and its changes after one cause: a received frame, a second, or a port that is enabled or disabled
abbrev pub after : Machine → Cause → After
after machine (Hears port wire) = hear_read machine port (reading wire)
after machine Ticks = after_tick machine
after machine (Sets port up) = after_admin machine port up

-- a received frame is a cause for the spanning tree if the bridge took it as a BPDU
abbrev pub heard_cause : ℕ → Item → Outcome → List Cause
heard_cause port item Heard = Hears port item.wire ∷ []
heard_cause port item (Filtered reason) = []
heard_cause port item (Relayed chosen refused) = []

-- the cause that a step of a bridge is for its spanning tree, if it is one
abbrev pub causes_of : Step → List Cause
causes_of (Receive port item learnt outcome moved) = heard_cause port item outcome
causes_of (Tick now moved) = Ticks ∷ []
causes_of (Admin port up moved) = Sets port up ∷ []
causes_of _ = []

-- the bridge after several causes, one by one
abbrev pub machine_after : Machine → List Cause → Machine
machine_after machine [] = machine
machine_after machine (cause ∷ causes) = machine_after (after machine cause).machine causes

-- a local port takes part in the spanning tree if it leads to another bridge
abbrev pub rstp_port : ℕ → LocalPort → List RstpPort
rstp_port port (Provider e) = record { port = port; cost = e.cost; priority = e.priority } ∷ []
rstp_port port (Customer c) = []
rstp_port port Unused = []

-- the ports of a bridge of the plan that take part in the spanning tree, by number
abbrev pub rstp_ports : Plan → ℕ → List RstpPort
rstp_ports plan bridge = flat_map (λ port. rstp_port port (port_at plan bridge port)) local_ports

-- the bridge identifier of a bridge of the plan (clause 9.2.5)
abbrev pub plan_id : BridgePlan → ℕ
plan_id b = bridge_id b.priority b.address.0

-- the bridge identifier of the bridge with this number
abbrev pub id_in : Plan → ℕ → ℕ
id_in plan bridge = unwrap_or (option_map plan_id (numbered plan.bridges bridge)) 0

-- the address of the bridge with this number
abbrev pub address_in : Plan → ℕ → List ℕ
address_in plan bridge = unwrap_or (option_map (λ b. b.address.0) (numbered plan.bridges bridge)) []

-- the bridge with this number at the start
abbrev pub machine_at_start : Plan → ℕ → Machine
machine_at_start plan bridge = start plan.prompt (id_in plan bridge) (rstp_ports plan bridge)

-- the bridge with this number after these steps
abbrev pub machine_of : Plan → ℕ → List Step → Machine
machine_of plan bridge steps = machine_after (machine_at_start plan bridge) (flat_map causes_of steps)

-- the changes of a call with each BPDU as the octets that the bridge sends
abbrev pub lan_change : List ℕ → Change → LanChange
lan_change address change = record {
  states = change.states;
  flushed = change.flush;
  sent = map (λ s. (s.0, written address s.1)) change.send;
}

-- the changes that a cause makes at a bridge of the plan after its earlier steps
abbrev pub profile_change : Plan → ℕ → List Step → Cause → LanChange
profile_change plan bridge earlier cause =
    lan_change (address_in plan bridge) (after (machine_of plan bridge earlier) cause).change

-- the rapid spanning tree as the rules that the model of networks uses: which BPDUs are valid, and what a bridge
-- changes
abbrev pub rules : Rules
rules = record { is_readable = is_readable; change = profile_change }
