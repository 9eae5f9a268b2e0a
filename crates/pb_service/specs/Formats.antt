-- The keys of the tables of a plan file, in order.
use Rattle.std.specs.Prelude.{ℕ, Bool, codes, List, [], ◌∷◌, if◌then◌else◌}
use Rattle.pb_frame.specs.Admission.{same}
use Rattle.toml.specs.Data.{Members, get_member}
use Rattle.pb_service.specs.declared.section.Section.{Section}
use Rattle.pb_service.specs.declared.section.Section.TheVariants.{Bridge, Link, Service, Port, Event, Tap}
use Rattle.pb_service.specs.declared.rule.Rule.TheVariants.{Number, BridgePriority, PortPriority, Name, Address, Spanning, Queues, State, PortKind, Stamp, Replay, Direction, Path, Framing, SocketAddress, Encap, Losses, Names, Frames, Flag, FlagOrAuto}
use Rattle.pb_service.specs.Keys.{KeyRule, with_default, without_default}
use Rattle.pb_service.specs.Told.{has_key, text_told}

-- the keys at the top: those of the plan, and `accept`, which pb_accept reads
abbrev pub top_keys : List (List ℕ)
top_keys =
    codes "network" ∷ codes "bridge" ∷ codes "link" ∷ codes "service" ∷ codes "port" ∷ codes "event" ∷ codes "tap" ∷ codes "accept" ∷ []

-- the keys of the network
abbrev pub network_keys : List KeyRule
network_keys =
    with_default (codes "spanning") Spanning
    ∷ with_default (codes "ageing") (Number 10 1000000)
    ∷ with_default (codes "ring") (Number 1 4096)
    ∷ with_default (codes "steps") (Number 1 1000000)
    ∷ with_default (codes "turns") (Number 1 1000000000)
    ∷ with_default (codes "tick_every") (Number 0 1000000)
    ∷ with_default (codes "tick_ms") (Number 0 60000)
    ∷ with_default (codes "hold") (Number 0 1000000)
    ∷ with_default (codes "prompt") Flag
    ∷ with_default (codes "queues") Queues
    ∷ with_default (codes "lossless") FlagOrAuto
    ∷ []

-- the keys of a bridge
abbrev pub bridge_keys : List KeyRule
bridge_keys =
    without_default (codes "name") Name
    ∷ without_default (codes "address") Address
    ∷ with_default (codes "priority") BridgePriority
    ∷ with_default (codes "queue") (Number 1 4096)
    ∷ []

-- the keys of a link
abbrev pub link_keys : List KeyRule
link_keys =
    without_default (codes "name") Name
    ∷ without_default (codes "a") Name
    ∷ without_default (codes "a_port") (Number 1 16)
    ∷ without_default (codes "b") Name
    ∷ without_default (codes "b_port") (Number 1 16)
    ∷ with_default (codes "a_cost") (Number 1 200000000)
    ∷ with_default (codes "b_cost") (Number 1 200000000)
    ∷ with_default (codes "a_priority") PortPriority
    ∷ with_default (codes "b_priority") PortPriority
    ∷ with_default (codes "a_state") State
    ∷ with_default (codes "b_state") State
    ∷ with_default (codes "a_services") Names
    ∷ with_default (codes "b_services") Names
    ∷ with_default (codes "lost_ab") Losses
    ∷ with_default (codes "lost_ba") Losses
    ∷ with_default (codes "cost") (Number 1 200000000)
    ∷ with_default (codes "services") Names
    ∷ []

-- the keys of a service
abbrev pub service_keys : List KeyRule
service_keys =
    without_default (codes "name") Name
    ∷ without_default (codes "vid") (Number 1 4094)
    ∷ []

-- the datagrams of a customer port are frames alone
abbrev pub is_bare : Members → Bool
is_bare row = same (text_told (get_member (codes "encap") row)) (codes "none")

-- the keys of one kind of customer port alone, of which a port over a socket has the path at which it listens or to
-- which it connects, and a port over datagrams the network of their header if they have one
abbrev pub own_keys : List ℕ → Bool → Bool → List KeyRule
own_keys kind listens bare =
    if same kind (codes "capture") then
    without_default (codes "read") Path ∷ with_default (codes "replay") Replay ∷ with_default (codes "speed") (Number 1 1000)
    ∷ without_default (codes "write") Path ∷ with_default (codes "stamp") Stamp ∷ []
    else if same kind (codes "record") then without_default (codes "write") Path ∷ with_default (codes "stamp") Stamp ∷ []
    else if same kind (codes "replay") then
    without_default (codes "read") Path ∷ with_default (codes "replay") Replay ∷ with_default (codes "speed") (Number 1 1000) ∷ []
    else if same kind (codes "socket") then
    without_default (if listens then codes "listen" else codes "path") Path ∷ with_default (codes "stay") Flag
    ∷ with_default (codes "framing") Framing ∷ []
    else if same kind (codes "udp") then
    without_default (codes "local") SocketAddress ∷ without_default (codes "remote") SocketAddress
    ∷ with_default (codes "encap") Encap ∷ (if bare then [] else without_default (codes "vni") (Number 0 16777215) ∷ [])
    else with_default (codes "in") Frames ∷ []

-- the keys of one kind of customer port: those of every kind, followed by its own
abbrev pub port_keys : List ℕ → Bool → Bool → List KeyRule
port_keys kind listens bare =
    without_default (codes "name") Name
    ∷ without_default (codes "bridge") Name
    ∷ without_default (codes "port") (Number 1 16)
    ∷ without_default (codes "service") Name
    ∷ with_default (codes "pcp") (Number 0 7)
    ∷ with_default (codes "queue") (Number 1 4096)
    ∷ with_default (codes "kind") PortKind
    ∷ own_keys kind listens bare

-- the keys of an event
abbrev pub event_keys : List KeyRule
event_keys =
    without_default (codes "at") (Number 0 4294967295)
    ∷ without_default (codes "bridge") Name
    ∷ without_default (codes "port") (Number 1 16)
    ∷ without_default (codes "up") Flag
    ∷ []

-- the keys of a tap
abbrev pub tap_keys : List KeyRule
tap_keys =
    without_default (codes "link") Name
    ∷ without_default (codes "write") Path
    ∷ with_default (codes "direction") Direction
    ∷ with_default (codes "stamp") Stamp
    ∷ []

-- the keys of a table of an array
abbrev pub keys_of : Section → Members → List KeyRule
keys_of Bridge row = bridge_keys
keys_of Link row = link_keys
keys_of Service row = service_keys
keys_of Port row = port_keys (text_told (get_member (codes "kind") row)) (has_key row (codes "listen")) (is_bare row)
keys_of Event row = event_keys
keys_of Tap row = tap_keys
