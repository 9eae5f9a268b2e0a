-- Where stations are according to a bridge's steps, and the ports to which a frame is relayed (IEEE 802.1Q clauses 8.6
-- to 8.8).
use Rattle.std.specs.Prelude.{ℕ, ◌+◌, Bool, true, false, List, [], ◌∷◌, ◌++◌, Some, None, map, length, nat_le, ◌==◌, ◌&&◌, not, if◌then◌else◌}
use Rattle.std.specs.declared.option.Option.{Option}
use Rattle.std.specs.List.{filter, flat_map}
use Rattle.pb_frame.specs.Frames.{dst_of, src_of, is_group}
use Rattle.pb_frame.specs.Stations.{News, Sighting, IsLearnt, standing, where_is}
use Rattle.pb_lan.specs.Ports.{port_at, local_ports, is_member}
use Rattle.pb_lan.specs.Queues.{vid_in}
use Rattle.pb_lan.specs.Shapes.{moved_of, state_after, is_forwarding}
use Rattle.pb_frame.specs.Stations.News.{Seen, Flushed}
use Rattle.pb_frame.specs.declared.learnt.Learnt.{Learnt}
use Rattle.pb_frame.specs.declared.learnt.Learnt.TheVariants.{New, Kept, Moved, Full, Group, Memory}
use Rattle.pb_lan.specs.declared.plan.Plan.{Plan}
use Rattle.pb_lan.specs.declared.step.Step.{Step}
use Rattle.pb_lan.specs.declared.step.Step.TheVariants.{Receive, Tick}

-- 1 if the step is a tick, and 0 if it is not
abbrev pub ticked : Step → ℕ
ticked (Tick now moved) = 1
ticked _ = 0

-- a bridge's clock: the number of its ticks
abbrev pub now_after : List Step → ℕ
now_after [] = 0
now_after (step ∷ steps) = ticked step + now_after steps

-- the learning table has the source at this port from this step on
abbrev pub is_noted : Option Learnt → Bool
is_noted None = false
is_noted (Some New) = true
is_noted (Some Kept) = true
is_noted (Some Moved) = true
is_noted (Some Full) = false
is_noted (Some Group) = false
is_noted (Some Memory) = false

-- the station that a received frame shows at a port, at this moment of the bridge's clock
abbrev pub sighting : Plan → ℕ → ℕ → ℕ → List ℕ → Sighting
sighting plan bridge moment port wire = record { vid = vid_in plan (port_at plan bridge port) wire; mac = src_of wire; port = port; moment = moment }

-- the station that a step notes in the learning table, if it notes one
abbrev pub sightings : Plan → ℕ → ℕ → Step → List News
sightings plan bridge moment (Receive port item learnt outcome moved) =
    if is_noted learnt then Seen (sighting plan bridge moment port item.wire) ∷ [] else []
sightings plan bridge moment _ = []

-- the ports whose stations a step flushes
abbrev pub flushes : Step → List News
flushes step = map (λ port. Flushed port) (flat_map (λ moved. moved.flushed) (moved_of step))

-- what steps report about stations, with the bridge's clock at this moment before them
abbrev pub news_from : Plan → ℕ → ℕ → List Step → List News
news_from plan bridge moment [] = []
news_from plan bridge moment (step ∷ steps) =
    sightings plan bridge moment step ++ flushes step ++ news_from plan bridge (moment + ticked step) steps

-- what a bridge's steps report about stations
abbrev pub news_of : Plan → ℕ → List Step → List News
news_of plan bridge steps = news_from plan bridge 0 steps

-- the port at which the learning table has the station after these steps
abbrev pub found : Plan → ℕ → List Step → ℕ → List ℕ → Option ℕ
found plan bridge steps vid mac = where_is plan.ageing (now_after steps) (news_of plan bridge steps) vid mac

-- the most stations that a bridge knows
abbrev pub table_limit : ℕ
table_limit = 4096

-- the bridge knows as many stations as it may
abbrev pub is_table_full : Plan → ℕ → List Step → Bool
is_table_full plan bridge steps = nat_le table_limit (length (standing plan.ageing (now_after steps) (news_of plan bridge steps)))

-- what the learning table may report about the source of a frame
abbrev pub Learns : Plan → ℕ → List Step → ℕ → List ℕ → Learnt → Type 0
Learns plan bridge earlier port wire learnt =
    IsLearnt (is_group (src_of wire))
    (found plan bridge earlier (vid_in plan (port_at plan bridge port) wire) (src_of wire))
    (is_table_full plan bridge earlier) port learnt

-- the other Forwarding ports of the service (IEEE 802.1Q clauses 8.6.1 and 8.6.4)
abbrev pub flood : Plan → ℕ → List Step → ℕ → ℕ → List ℕ
flood plan bridge steps port vid =
    filter (λ other. not (other == port) && (is_forwarding (state_after plan bridge steps other) && is_member plan vid (port_at plan bridge other)))
    local_ports

-- of these ports the one at which the station is, or all if the station is unknown (IEEE 802.1Q clause 8.6.3)
abbrev pub narrowed : List ℕ → Option ℕ → List ℕ
narrowed ports None = ports
narrowed ports (Some at) = filter (λ port. port == at) ports

-- the ports, ascending, to which a bridge relays a frame of a service that arrived at a port
abbrev pub chosen_ports : Plan → ℕ → List Step → ℕ → ℕ → List ℕ → List ℕ
chosen_ports plan bridge steps port vid wire =
    if is_forwarding (state_after plan bridge steps port)
    then (if is_group (dst_of wire)
    then flood plan bridge steps port vid
    else narrowed (flood plan bridge steps port vid) (found plan bridge steps vid (dst_of wire)))
    else []
