-- The lists of steps that a bridge may take.
use Rattle.std.specs.Prelude.{◌≡◌, ℕ, ◌+◌, ◌⊎◌, Bool, true, false, List, [], ◌∷◌, ◌++◌, Some, None, map, length, nat_lt, ◌==◌, ◌&&◌, not, if◌then◌else◌}
use Rattle.std.specs.declared.option.Option.{Option}
use Rattle.std.specs.List.{filter, flat_map, list_any, AllByRecursion}
use Rattle.pb_frame.specs.Admission.{same, is_reserved, provider_address, reserved_as, admission_cases}
use Rattle.pb_frame.specs.Frames.{dst_of, shortest_frame, longest_frame}
use Rattle.pb_frame.specs.Tags.{has_service_type, vid_of, shortest_tagged}
use Rattle.pb_lan.specs.Choice.{now_after, Learns, chosen_ports}
use Rattle.pb_lan.specs.Ports.{Port, port_at, vid_at, serves, is_provider}
use Rattle.pb_lan.specs.Queues.{is_refused, is_full, own_class, class_of, priority_in, replaced_in, waiting, next_out}
use Rattle.pb_lan.specs.Rules.{Rules, Cause, change_of}
use Rattle.pb_lan.specs.Shapes.{state_after}
use Rattle.pb_frame.specs.declared.learnt.Learnt.{Learnt}
use Rattle.pb_lan.specs.Ports.Port.{Customer, Provider, Unused}
use Rattle.pb_lan.specs.Rules.Cause.{Hears, Ticks, Sets}
use Rattle.pb_lan.specs.declared.plan.Plan.{Plan}
use Rattle.pb_lan.specs.declared.plan.End.{End}
use Rattle.pb_lan.specs.declared.shape.PortState.{PortState}
use Rattle.pb_lan.specs.declared.shape.PortState.TheVariants.{Discarding, Learning, Forwarding}
use Rattle.pb_lan.specs.declared.step.Item.{Item}
use Rattle.pb_lan.specs.declared.step.Moved.{Moved}
use Rattle.pb_lan.specs.declared.step.NoRoom.{NoRoom}
use Rattle.pb_lan.specs.declared.step.NoRoom.TheVariants.{Full, Memory}
use Rattle.pb_lan.specs.declared.step.Outcome.{Outcome}
use Rattle.pb_lan.specs.declared.step.Outcome.TheVariants.{Relayed, Filtered, Heard}
use Rattle.pb_frame.specs.declared.reason.Reason.{Reason}
use Rattle.pb_frame.specs.declared.reason.Reason.TheVariants.{NotForwarding, NotMember, Untagged, Reserved, Malformed, Worn, Memory as WantOfMemory, Long}
use Rattle.pb_lan.specs.declared.step.Step.{Step}
use Rattle.pb_lan.specs.declared.step.Step.TheVariants.{Receive, Transmit, Tick, Admin}

-- what a bridge does with a received frame
pub data Ruling : Type 0 where
  -- the frame is filtered, and nothing is learnt
  Refuses : Reason → Ruling
  -- the frame is a BPDU for the bridge, which reads it
  Listens : Ruling
  -- the source is learnt in this service, and the frame is filtered
  LearnsOnly : (vid : ℕ) → Ruling
  -- the source is learnt in this service, and the frame is relayed there
  Carries : (vid : ℕ) → Ruling
  -- the local port is unused, and receives no frame
  Closed : Ruling

-- the most bridges that relay a frame
abbrev pub most_hops : ℕ
most_hops = 4294967295

-- the frame has been relayed by the most bridges
abbrev pub is_worn : Item → Bool
is_worn item = item.hops == most_hops

-- the ruling of the first case that holds, or the other one if none holds
abbrev pub first_case : List (Bool × Ruling) → Ruling → Ruling
first_case [] otherwise = otherwise
first_case (c ∷ cs) otherwise = if c.0 then c.1 else first_case cs otherwise

-- a case in which a frame is refused
abbrev pub refusing : (Bool × Reason) → (Bool × Ruling)
refusing c = (c.0, Refuses c.1)

-- the cases in which a customer port, a port-based service interface, refuses a frame (IEEE 802.1Q clause 15.3)
abbrev pub customer_reasons : Item → List (Bool × Reason)
customer_reasons item = admission_cases item.wire ++ (is_worn item, Worn) ∷ []

-- the rulings of a customer port
abbrev pub customer_cases : Item → List (Bool × Ruling)
customer_cases item = map refusing (customer_reasons item)

-- the destination is the provider bridge group address
abbrev pub is_for_bridges : List ℕ → Bool
is_for_bridges wire = same (dst_of wire) provider_address

-- the rulings of a provider port, given which frames can be read as BPDUs and which VIDs it serves (IEEE 802.1Q clauses
-- 8.6.1 to 8.6.3)
abbrev pub bridge_cases : (List ℕ → Bool) → (ℕ → Bool) → Item → List (Bool × Ruling)
bridge_cases is_readable is_served item =
    (nat_lt (length item.wire) shortest_frame, Refuses Malformed)
    ∷ (nat_lt longest_frame (length item.wire), Refuses Long)
    ∷ (is_for_bridges item.wire && has_service_type item.wire, Refuses (Reserved 8))
    ∷ (is_for_bridges item.wire && is_readable item.wire, Listens)
    ∷ (is_for_bridges item.wire, Refuses Malformed)
    ∷ (is_reserved (dst_of item.wire), Refuses (reserved_as item.wire))
    ∷ (not (has_service_type item.wire), Refuses Untagged)
    ∷ (nat_lt (length item.wire) shortest_tagged, Refuses Malformed)
    ∷ (not (is_served (vid_of item.wire)), Refuses NotMember)
    ∷ (is_worn item, Refuses Worn)
    ∷ []

-- the rulings at an end of a link, given the spanning tree protocol
abbrev pub provider_cases : Rules → Plan → End → Item → List (Bool × Ruling)
provider_cases rules plan e item = bridge_cases rules.is_readable (λ vid. serves plan vid e) item

-- the ruling on a frame of a service at a provider port in this state
abbrev pub ruling_in : PortState → ℕ → Ruling
ruling_in Discarding vid = Refuses NotForwarding
ruling_in Learning vid = LearnsOnly vid
ruling_in Forwarding vid = Carries vid

-- the ruling on an item at a port in this state
abbrev pub ruling_by : Rules → Plan → Port → PortState → Item → Ruling
ruling_by rules plan (Customer c) state item = first_case (customer_cases item) (Carries (vid_at plan c))
ruling_by rules plan (Provider e) state item = first_case (provider_cases rules plan e item) (ruling_in state (vid_of item.wire))
ruling_by rules plan Unused state item = Closed

-- the ruling on an item at a local port of a bridge after its earlier steps
abbrev pub ruling : Rules → Plan → ℕ → List Step → ℕ → Item → Ruling
ruling rules plan bridge earlier port item = ruling_by rules plan (port_at plan bridge port) (state_after plan bridge earlier port) item

-- the cause is a full queue
abbrev pub is_full_word : NoRoom → Bool
is_full_word Full = true
is_full_word Memory = false

-- the list names the port, with a full queue as the cause
abbrev pub is_named_full : List (ℕ × NoRoom) → ℕ → Bool
is_named_full refused port = list_any (λ r. r.0 == port && is_full_word r.1) refused

-- the refused ports are some of the ports, in their order and each once, and a port is named full if and only if its
-- queue is full
abbrev pub AreRefused : (ℕ → Bool) → List ℕ → List (ℕ × NoRoom) → Type 0
AreRefused full ports refused =
    (map (λ r. r.0) refused ≡ filter (is_refused refused) ports)
    × AllByRecursion (λ port. full port ≡ is_named_full refused port) ports

-- the item is the bridge's own: it has no mark and no hops, is for other bridges, and is queued at a provider port
abbrev pub IsOwn : Plan → ℕ → (ℕ × Item) → Type 0
IsOwn plan bridge (port, item) =
    (item.mark ≡ None) × (item.hops ≡ 0) × (dst_of item.wire ≡ provider_address) × (is_provider (port_at plan bridge port) ≡ true)

-- the bridge's own item of these octets
abbrev pub own_item : (ℕ × List ℕ) → (ℕ × Item)
own_item (port, wire) = (port, record { mark = None; hops = 0; wire = wire })

-- the bridge's own BPDUs whose places these newer ones take, each with its port
abbrev pub replaced_by : Plan → ℕ → List Step → List (ℕ × Item) → List (ℕ × Item)
replaced_by plan bridge earlier queued =
    flat_map (λ q. map (λ w. (q.0, w.item)) (replaced_in plan.queues (waiting plan bridge q.0 earlier))) queued

-- a step reports what its cause changes: the states, the flushed ports, each BPDU as queued or dropped, and those whose
-- places the queued ones take
pub record Names (rules : Rules) (plan : Plan) (bridge : ℕ) (earlier : List Step) (cause : Cause) (moved : Moved) : Type 0 where
  pub states : moved.states ≡ (change_of rules plan bridge earlier cause).states
  pub flushed : moved.flushed ≡ (change_of rules plan bridge earlier cause).flushed
  pub queued : moved.queued ≡ map own_item (filter (λ s. not (is_refused moved.dropped s.0)) (change_of rules plan bridge earlier cause).sent)
  pub replaced : moved.replaced ≡ replaced_by plan bridge earlier moved.queued
  pub dropped : AreRefused (is_full plan bridge earlier (own_class plan.queues)) (map (λ s. s.0) (change_of rules plan bridge earlier cause).sent) moved.dropped
  pub own : AllByRecursion (IsOwn plan bridge) moved.queued

-- out of memory: the frame is filtered, and nothing is learnt, queued or changed
abbrev pub IsGivenUp : Option Learnt → Outcome → Option Moved → Type 0
IsGivenUp learnt outcome moved = (learnt ≡ None) × (outcome ≡ Filtered WantOfMemory) × (moved ≡ None)

-- the frame is relayed to these ports, of which some may get no copy
abbrev pub IsRelayed : (ℕ → Bool) → List ℕ → Outcome → Type 0
IsRelayed full ports (Relayed chosen refused) = (chosen ≡ ports) × AreRefused full chosen refused
IsRelayed full ports (Filtered reason) = ⊥
IsRelayed full ports Heard = ⊥

-- what a Receive step may report under a ruling
abbrev pub Follows : Rules → Plan → ℕ → List Step → ℕ → Item → Option Learnt → Outcome → Option Moved → Ruling → Type 0
Follows rules plan bridge earlier port item learnt outcome moved (Refuses reason) =
    (learnt ≡ None) × (outcome ≡ Filtered reason) × (moved ≡ None)
Follows rules plan bridge earlier port item learnt outcome moved Listens =
    IsGivenUp learnt outcome moved
    ⊎ ((learnt ≡ None) × (outcome ≡ Heard) × ((m : Moved) × (moved ≡ Some m) × Names rules plan bridge earlier (Hears port item.wire) m))
Follows rules plan bridge earlier port item learnt outcome moved (LearnsOnly vid) =
    ((l : Learnt) × (learnt ≡ Some l) × Learns plan bridge earlier port item.wire l)
    × (outcome ≡ Filtered NotForwarding) × (moved ≡ None)
Follows rules plan bridge earlier port item learnt outcome moved (Carries vid) =
    IsGivenUp learnt outcome moved
    ⊎ (((l : Learnt) × (learnt ≡ Some l) × Learns plan bridge earlier port item.wire l)
    × IsRelayed (is_full plan bridge earlier (class_of (priority_in (port_at plan bridge port) item.wire)))
    (chosen_ports plan bridge (earlier ++ Receive port item learnt outcome moved ∷ []) port vid item.wire)
    outcome
    × (moved ≡ None))
Follows rules plan bridge earlier port item learnt outcome moved Closed = ⊥

-- the step may come after the earlier ones
abbrev pub Fits : Rules → Plan → ℕ → List Step → Step → Type 0
Fits rules plan bridge earlier (Receive port item learnt outcome moved) =
    Follows rules plan bridge earlier port item learnt outcome moved (ruling rules plan bridge earlier port item)
Fits rules plan bridge earlier (Transmit port item) = next_out (waiting plan bridge port earlier) ≡ Some item
Fits rules plan bridge earlier (Tick now moved) = (now ≡ now_after earlier + 1) × Names rules plan bridge earlier Ticks moved
Fits rules plan bridge earlier (Admin port up moved) =
    (is_provider (port_at plan bridge port) ≡ true) × Names rules plan bridge earlier (Sets port up) moved
Fits rules plan bridge earlier _ = ⊥

-- each step may come after those before it
abbrev pub LawfulAfter : Rules → Plan → ℕ → List Step → List Step → Type 0
LawfulAfter rules plan bridge earlier [] = Unit {0}
LawfulAfter rules plan bridge earlier (step ∷ steps) =
    Fits rules plan bridge earlier step × LawfulAfter rules plan bridge (earlier ++ step ∷ []) steps

-- a bridge may take these steps from its start
abbrev pub IsLawfulBridge : Rules → Plan → ℕ → List Step → Type 0
IsLawfulBridge rules plan bridge steps = LawfulAfter rules plan bridge [] steps
