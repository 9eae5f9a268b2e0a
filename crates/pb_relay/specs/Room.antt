-- The room for the copies of an item that a bridge has not received yet.
use Rattle.std.specs.Prelude.{ℕ, Bool, List, [], length, nat_le, not}
use Rattle.std.specs.List.{list_any}
use Rattle.pb_lan.specs.BridgeLists.{Ruling, ruling}
use Rattle.pb_lan.specs.BridgeLists.Ruling.{Carries}
use Rattle.pb_lan.specs.Choice.{chosen_ports}
use Rattle.pb_lan.specs.Queues.{waiting}
use Rattle.pb_lan.specs.declared.plan.Plan.{Plan}
use Rattle.pb_lan.specs.declared.step.Item.{Item}
use Rattle.pb_lan.specs.declared.step.Step.{Step}
use Rattle.pb_relay.specs.Protocol.{spanning_tree}

-- the ports to which a bridge relays a frame under a ruling: none if it filters the frame or reads it as a BPDU
abbrev pub ports_under : Plan → ℕ → List Step → ℕ → List ℕ → Ruling → List ℕ
ports_under plan bridge steps port wire (Carries vid) = chosen_ports plan bridge steps port vid wire
ports_under plan bridge steps port wire _ = []

-- the ports to which a bridge relays an item that arrives at a port, by what it has learnt before
abbrev pub copy_ports : Plan → ℕ → List Step → ℕ → Item → List ℕ
copy_ports plan bridge steps port item =
    ports_under plan bridge steps port item.wire (ruling spanning_tree plan bridge steps port item)

-- at least this many items wait at the port
abbrev pub is_filled : Plan → ℕ → List Step → ℕ → ℕ → Bool
is_filled plan bridge steps most port = nat_le most (length (waiting plan bridge port steps))

-- fewer items than this wait at each port to which the bridge relays the item
abbrev pub has_room_for : Plan → ℕ → List Step → ℕ → ℕ → Item → Bool
has_room_for plan bridge steps most port item = not (list_any (is_filled plan bridge steps most) (copy_ports plan bridge steps port item))
