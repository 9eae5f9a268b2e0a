-- Worked examples of the profile: two bridges with priority 32768 and the addresses
-- 02-00-00-00-00-01 and 02-00-00-00-00-02, joined from port 1 to port 1.
use Rattle.std.proofs.Common.{◌≡◌, ℕ, List, [], ◌∷◌, ◌++◌, refl, map, zero, suc, None, true, false}
use Rattle.std.specs.Option.{option_map_or}
use Rattle.pb_bpdu.specs.Layout.{written}
use Rattle.pb_lan.specs.declared.shape.PortState.{PortState}
use Rattle.pb_lan.specs.declared.shape.PortState.TheVariants.{Discarding, Learning, Forwarding}
use Rattle.pb_lan.specs.Rules.{Cause}
use Rattle.pb_lan.specs.Rules.Cause.{Hears, Ticks}
use Rattle.pb_rstp.specs.Vectors.{bridge_id}
use Rattle.pb_rstp.specs.Ports.{Machine, start, stored}
use Rattle.pb_rstp.specs.declared.port.Port.{Port}
use Rattle.pb_rstp.specs.Roles.{root_vector}
use Rattle.pb_rstp.specs.Profile.{after, machine_after, machine_at_start}
use Rattle.pb_rstp.specs.Tree.{is_settled}
use Rattle.pb_lan.specs.declared.plan.Plan.{Plan}
use Rattle.pb_lan.specs.declared.plan.End.{End}
use Rattle.pb_lan.specs.declared.plan.BridgePlan.{BridgePlan}
use Rattle.pb_lan.specs.declared.plan.Queues.TheVariants.{PerPort}
use Rattle.pb_lan.specs.declared.plan.Spanning.TheVariants.{Rstp}
use Rattle.pb_rstp.specs.declared.change.Change.{Change}

-- the address of bridge n
address : ℕ → List ℕ
address n = 2 ∷ 0 ∷ 0 ∷ 0 ∷ 0 ∷ n ∷ []

-- bridge n at the start, with one port
bridge : ℕ → Machine
bridge n = start false (bridge_id 32768 (address n)) (record { port = 1; cost = 20000; priority = 128 } ∷ [])

-- the octets of each BPDU of a change, by port
wires : ℕ → Change → List (List ℕ)
wires n change = map (λ s. written (address n) s.1) change.send

-- the octets of bridge n's BPDUs up to the flags
front : ℕ → List ℕ
front n = 1 ∷ 128 ∷ 194 ∷ 0 ∷ 0 ∷ 8 ∷ 2 ∷ 0 ∷ 0 ∷ 0 ∷ 0 ∷ n ∷ 0 ∷ 39 ∷ 66 ∷ 66 ∷ 3 ∷ 0 ∷ 0 ∷ 2 ∷ 2 ∷ []

-- the octets of bridge n's identifier
id_octets : ℕ → List ℕ
id_octets n = 128 ∷ 0 ∷ 2 ∷ 0 ∷ 0 ∷ 0 ∷ 0 ∷ n ∷ []

-- the octets of the times, with this Message Age
times : ℕ → List ℕ
times age = age ∷ 0 ∷ 20 ∷ 0 ∷ 2 ∷ 0 ∷ 15 ∷ 0 ∷ 0 ∷ []

-- a BPDU of bridge 1, which is the root, with these flags
from_first : ℕ → List ℕ
from_first flags = front 1 ++ flags ∷ id_octets 1 ++ 0 ∷ 0 ∷ 0 ∷ 0 ∷ id_octets 1 ++ 128 ∷ 1 ∷ times 0

-- a BPDU of bridge 2 with bridge 1 as its root, with these flags
from_second : ℕ → List ℕ
from_second flags = front 2 ++ flags ∷ id_octets 1 ++ 0 ∷ 0 ∷ 78 ∷ 32 ∷ id_octets 2 ++ 128 ∷ 1 ∷ times 1

-- a BPDU of bridge 2 as its own root, with these flags
from_second_alone : ℕ → List ℕ
from_second_alone flags = front 2 ++ flags ∷ id_octets 2 ++ 0 ∷ 0 ∷ 0 ∷ 0 ∷ id_octets 2 ++ 128 ∷ 1 ∷ times 0

-- so many seconds
ticks : ℕ → List Cause
ticks zero = []
ticks (suc n) = Ticks ∷ ticks n

-- the changes of each cause, one by one
changes : Machine → List Cause → List Change
changes machine [] = []
changes machine (cause ∷ causes) = (after machine cause).change ∷ changes (after machine cause).machine causes

-- bridge 1 sends a proposal at the first second
first_tick : wires 1 (after (bridge 1) Ticks).change ≡ from_first 14 ∷ []
unfolding address bridge wires front id_octets times from_first
first_tick = refl

-- bridge 2 receives it, its port is Root and Forwarding at once, and it agrees
second_hears : ((after (bridge 2) (Hears 1 (from_first 14))).change.states ≡ (1, Forwarding) ∷ [])
    × (wires 2 (after (bridge 2) (Hears 1 (from_first 14))).change ≡ from_second 121 ∷ [])
unfolding address bridge wires front id_octets times from_first from_second
second_hears = (refl, refl)

-- bridge 1 after that second
first_ticked : Machine
first_ticked = machine_after (bridge 1) (Ticks ∷ [])

-- bridge 1 receives the agreement, and its port is Forwarding
first_hears : ((after first_ticked (Hears 1 (from_second 121))).change.states ≡ (1, Forwarding) ∷ [])
    × (wires 1 (after first_ticked (Hears 1 (from_second 121))).change ≡ from_first 61 ∷ [])
unfolding address bridge wires front id_octets times from_first from_second first_ticked
first_hears = (refl, refl)

-- the parts of a change: states, flushed ports and octets
told : ℕ → Change → List (ℕ × PortState) × List ℕ × List (List ℕ)
told n change = (change.states, change.flush, wires n change)

-- bridge 2 receives the next BPDU of bridge 1, and changes and sends nothing
second_is_quiet : map (told 2) (changes (bridge 2) (Hears 1 (from_first 14) ∷ Hears 1 (from_first 61) ∷ []))
    ≡ ((1, Forwarding) ∷ [], [], from_second 121 ∷ []) ∷ ([], [], []) ∷ []
unfolding address bridge wires front id_octets times from_first from_second changes told
second_is_quiet = refl

-- bridge 2 after five seconds without a BPDU
both_heard : Machine
both_heard = machine_after (bridge 2) (Hears 1 (from_first 14) ∷ Hears 1 (from_first 61) ∷ ticks 5)

-- at the sixth the stored information has expired, and bridge 2 is its own root
sixth_silent_tick : told 2 (after both_heard Ticks).change
    ≡ ((1, Discarding) ∷ [], 1 ∷ [], from_second_alone 14 ∷ [])
unfolding address bridge wires front id_octets times from_first from_second_alone changes ticks both_heard told
sixth_silent_tick = refl

-- a second at which bridge 1 only sends a BPDU with these flags
sends : ℕ → List (ℕ × PortState) × List ℕ × List (List ℕ)
sends flags = ([], [], from_first flags ∷ [])

-- a second at which nothing changes
silent : List (ℕ × PortState) × List ℕ × List (List ℕ)
silent = ([], [], [])

-- thirty seconds alone: BPDUs at the first and at each second one, Learning from second 15 on, and Forwarding from
-- second 30 on
thirty_ticks : map (told 1) (changes (bridge 1) (ticks 30))
    ≡ sends 14 ∷ sends 14 ∷ silent ∷ sends 14 ∷ silent ∷ sends 14 ∷ silent ∷ sends 14 ∷ silent ∷ sends 14 ∷ silent
    ∷ sends 14 ∷ silent ∷ sends 14 ∷ ((1, Learning) ∷ [], [], []) ∷ sends 30 ∷ silent ∷ sends 30 ∷ silent ∷ sends 30
    ∷ silent ∷ sends 30 ∷ silent ∷ sends 30 ∷ silent ∷ sends 30 ∷ silent ∷ sends 30 ∷ silent
    ∷ ((1, Forwarding) ∷ [], [], from_first 61 ∷ []) ∷ []
unfolding address bridge wires front id_octets times from_first changes ticks told sends silent
thirty_ticks = refl

-- the proposal of bridge 1 with another root path cost
with_cost : List ℕ → List ℕ
with_cost cost = front 1 ++ 14 ∷ id_octets 1 ++ cost ++ id_octets 1 ++ 128 ∷ 1 ∷ times 0

-- the proposal of bridge 1 with another Message Age
with_age : ℕ → List ℕ
with_age age = front 1 ++ 14 ∷ id_octets 1 ++ 0 ∷ 0 ∷ 0 ∷ 0 ∷ id_octets 1 ++ 128 ∷ 1 ∷ times age

-- bridge 2 after a proposal with the greatest root path cost
greatest : Machine
greatest = machine_after (bridge 2) (Hears 1 (with_cost (255 ∷ 255 ∷ 255 ∷ 255 ∷ [])) ∷ [])

-- its root path cost is the greatest cost, and not more
cost_is_held : ((root_vector greatest.id greatest.ports).cost ≡ 4294967295)
    × (wires 2 (after (bridge 2) (Hears 1 (with_cost (255 ∷ 255 ∷ 255 ∷ 255 ∷ [])))).change
    ≡ (front 2 ++ 121 ∷ id_octets 1 ++ 255 ∷ 255 ∷ 255 ∷ 255 ∷ id_octets 2 ++ 128 ∷ 1 ∷ times 1) ∷ [])
unfolding address bridge wires front id_octets times with_cost greatest
cost_is_held = (refl, refl)

-- the root that bridge 2 stores after a proposal with this Message Age
roots_after : ℕ → List ℕ
roots_after age = map stored_root (machine_after (bridge 2) (Hears 1 (with_age age) ∷ [])).ports
  where
    stored_root : Port → ℕ
    stored_root p = option_map_or (λ v. v.root) (stored p) 0

-- information is stored at a Message Age of 19 s, and not at 20 s
old_is_not_kept : (roots_after 20 ≡ 0 ∷ []) × (roots_after 19 ≡ bridge_id 32768 (address 1) ∷ [])
unfolding address bridge front id_octets times with_age roots_after
old_is_not_kept = (refl, refl)

-- The plan of the two bridges, before and after it has converged.

-- the link end at bridge n
end_of : ℕ → End
end_of n = record { bridge = n; port = 1; cost = 20000; priority = 128; start = Forwarding; services = None }

-- bridge n of the plan
bridge_plan : ℕ → BridgePlan
bridge_plan n = record { name = n ∷ []; address = record { 0 = address n }; priority = 32768; queue = 64 }

-- the plan of the two bridges and their link
plan : Plan
plan = record {
  bridges = bridge_plan 1 ∷ bridge_plan 2 ∷ [];
  links = record { name = 1 ∷ []; a = end_of 1; b = end_of 2; lost_ab = []; lost_ba = [] } ∷ [];
  services = [];
  customers = [];
  spanning = Rstp;
  prompt = false;
  queues = PerPort;
  ageing = 300;
  ring = 64;
  steps = 1000000;
}

-- the bridges of that plan are those of the examples
machines_are : (machine_at_start plan 1 ≡ bridge 1) × (machine_at_start plan 2 ≡ bridge 2)
unfolding address bridge end_of bridge_plan plan
machines_are = (refl, refl)

-- bridge 2 after the first proposal
second_heard : Machine
second_heard = machine_after (bridge 2) (Hears 1 (from_first 14) ∷ [])

-- both bridges after proposal and agreement
both_done : List Machine
both_done =
    machine_after (bridge 1) (Ticks ∷ Hears 1 (from_second 121) ∷ [])
    ∷ machine_after (bridge 2) (Hears 1 (from_first 14) ∷ Hears 1 (from_first 61) ∷ []) ∷ []

-- the link has converged after the proposal is stored, and no longer after it has expired
settled_or_not :
    (is_settled plan (bridge 1 ∷ bridge 2 ∷ []) ≡ false)
    × (is_settled plan (first_ticked ∷ second_heard ∷ []) ≡ true)
    × (is_settled plan both_done ≡ true)
    × (is_settled plan (first_ticked ∷ (after both_heard Ticks).machine ∷ []) ≡ false)
unfolding address bridge front id_octets times from_first from_second ticks end_of bridge_plan plan first_ticked
    second_heard both_done both_heard
settled_or_not = (refl, refl, refl, refl)
