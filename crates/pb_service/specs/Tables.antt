-- The contents of the tables of a plan file.
use Rattle.std.specs.Prelude.{◌≡◌, ℕ, codes, Bool, true, false, not, ◌&&◌, List, [], ◌∷◌, take, Some, None, if◌then◌else◌}
use Rattle.std.specs.declared.option.Option.{Option}
use Rattle.std.specs.List.{list_any}
use Rattle.std.specs.Net.Addr.{is_ipv4}
use Rattle.std.specs.Net.Socket.{socket_ip}
use Rattle.std.specs.declared.net.SocketAddr.{SocketAddr}
use Rattle.pb_frame.specs.Admission.{same}
use Rattle.pb_frame.specs.Hex.{IsHex, IsMacText}
use Rattle.toml.specs.Data.{Data, Items, no_items, item, Members, get_member}
use Rattle.pb_lan.specs.Plans.{default_ageing}
use Rattle.pb_lan.specs.declared.plan.BridgePlan.{BridgePlan}
use Rattle.pb_lan.specs.declared.plan.End.{End}
use Rattle.pb_lan.specs.declared.plan.LinkPlan.{LinkPlan}
use Rattle.pb_lan.specs.declared.plan.ServicePlan.{ServicePlan}
use Rattle.pb_lan.specs.declared.plan.CustomerPlan.{CustomerPlan}
use Rattle.pb_lan.specs.declared.limits.Limits.{Limits}
use Rattle.pb_service.specs.declared.link.EndKeys.{EndKeys}
use Rattle.pb_service.specs.declared.network.Network.{Network}
use Rattle.pb_service.specs.declared.port_spec.PortSpec.{PortSpec}
use Rattle.pb_service.specs.declared.port_spec.LengthField.{LengthField}
use Rattle.pb_service.specs.declared.port_spec.Stamp.{Stamp}
use Rattle.pb_service.specs.declared.port_spec.Pace.{Pace}
use Rattle.pb_service.specs.declared.port_spec.Pace.TheVariants.{AtOnce, Times}
use Rattle.pb_service.specs.declared.port_spec.PortSpec.TheVariants.{Memory, Capture, Record, Replay, Socket, Udp}
use Rattle.pb_service.specs.Values.{text_in, all_items, IsSocketAddress}
use Rattle.pb_service.specs.Clocks.{has_two_clocks, holds_forever, is_vainly_prompt, lacks_time, lacks_clock}
use Rattle.pb_service.specs.Keys.{KeyRule, IsAccepted}
use Rattle.pb_service.specs.Formats.{network_keys, is_bare, port_keys}
use Rattle.pb_service.specs.Told.{has_key, number_told, text_told, items_told, stamp_of, framing_of, state_of, spanning_of, queues_of, flag_told, flag_in, naturals_in, number_from, listed_from}

-- the number at a key of a table, or the default, and never above the highest
abbrev pub number_at : Members → List ℕ → ℕ → ℕ → ℕ
number_at row key default highest = number_told default highest (get_member key row)

abbrev pub text_at : Members → List ℕ → List ℕ
text_at row key = text_told (get_member key row)

abbrev pub items_at : Members → List ℕ → Items
items_at row key = items_told (get_member key row)

-- the limits of a run that a table gives: its turns, the clock by which bridges tick, and how many ticks frames are
-- held
abbrev pub limits_told : Members → Limits
limits_told row = record {
  turns = number_at row (codes "turns") 18446744073709551615 18446744073709551615;
  tick_every = number_at row (codes "tick_every") 0 1000000;
  tick_ms = number_at row (codes "tick_ms") 0 60000;
  hold = number_at row (codes "hold") 0 1000000;
}

-- a port that stays Designated sends as soon as what it offers changes
abbrev pub prompt_told : Members → Bool
prompt_told row = flag_told (get_member (codes "prompt") row)

-- a run loses no frame because a queue is full, if the table says so
abbrev pub lossless_told : Members → Option Bool
lossless_told row = flag_in (get_member (codes "lossless") row)

-- the network that a table describes
pub record IsNetworkOf (row : Members) (n : Network) : Type 0 where
  pub keys : IsAccepted network_keys row
  pub spanning : n.spanning ≡ spanning_of (text_at row (codes "spanning"))
  pub prompt : n.prompt ≡ prompt_told row
  pub queues : n.queues ≡ queues_of (text_at row (codes "queues"))
  pub lossless : n.lossless ≡ lossless_told row
  pub ageing : n.ageing ≡ number_at row (codes "ageing") default_ageing 1000000
  pub ring : n.ring ≡ number_at row (codes "ring") 64 4096
  pub steps : n.steps ≡ number_at row (codes "steps") 18446744073709551615 18446744073709551615
  pub limits : n.limits ≡ limits_told row
  pub one_clock : has_two_clocks n.limits ≡ false
  pub some_clock : holds_forever n.limits ≡ false
  pub not_vain : is_vainly_prompt n.spanning n.prompt ≡ false

-- the bridge that a table describes
pub record IsBridgeOf (row : Members) (b : BridgePlan) : Type 0 where
  pub name : b.name ≡ text_at row (codes "name")
  pub address : IsMacText (text_at row (codes "address")) b.address.0
  pub priority : b.priority ≡ number_at row (codes "priority") 32768 61440
  pub queue : b.queue ≡ number_at row (codes "queue") 64 4096

-- the service that a table describes
pub record IsServiceOf (row : Members) (s : ServicePlan) : Type 0 where
  pub name : s.name ≡ text_at row (codes "name")
  pub vid : s.vid ≡ number_at row (codes "vid") 0 4094

-- the services of an end: all of them if it lists none, otherwise the numbers of the listed ones
abbrev pub services_told : List (List ℕ) → Option Data → Option (List ℕ)
services_told services None = None
services_told services (Some d) = Some (listed_from 1 (take 64 services) (items_told (Some d)))

-- the name is one of the names
abbrev pub is_one_of : List (List ℕ) → List ℕ → Bool
is_one_of names name = list_any (same name) names

-- each listed name is one of the known names
abbrev pub are_known : List (List ℕ) → Items → Bool
are_known names listed = all_items (λ d. is_one_of names (text_in d)) listed

-- the keys of an end of a link
pub record EndNames : Type 0 where
  pub bridge : List ℕ
  pub port : List ℕ
  pub cost : List ℕ
  pub priority : List ℕ
  pub state : List ℕ
  pub services : List ℕ

abbrev pub names_of_end : EndKeys → EndNames
names_of_end k = record { bridge = k.bridge.now; port = k.port.now; cost = k.cost.now; priority = k.priority.now; state = k.state.now; services = k.services.now }

abbrev pub a_names : EndNames
a_names = record { bridge = codes "a"; port = codes "a_port"; cost = codes "a_cost"; priority = codes "a_priority"; state = codes "a_state"; services = codes "a_services" }

abbrev pub b_names : EndNames
b_names = record { bridge = codes "b"; port = codes "b_port"; cost = codes "b_cost"; priority = codes "b_priority"; state = codes "b_state"; services = codes "b_services" }

-- the key of an end's value: that for both ends if the table has it, otherwise the end's own
abbrev pub key_for : Members → List ℕ → List ℕ → List ℕ
key_for row both own = if has_key row both then both else own

-- the table has a key of an end beside that for both ends
abbrev pub is_doubled : Members → List ℕ → List ℕ → Bool
is_doubled row both own = has_key row both && has_key row own

-- the first such key of an end
abbrev pub doubled_key : Members → Option (List ℕ)
doubled_key row =
    if is_doubled row (codes "cost") (codes "a_cost") then Some (codes "a_cost")
    else if is_doubled row (codes "cost") (codes "b_cost") then Some (codes "b_cost")
    else if is_doubled row (codes "services") (codes "a_services") then Some (codes "a_services")
    else if is_doubled row (codes "services") (codes "b_services") then Some (codes "b_services")
    else None

-- the end of a link that a table describes, apart from its bridge, among services of these names
pub record IsEndOf (known : List (List ℕ)) (row : Members) (k : EndNames) (e : End) : Type 0 where
  pub port : e.port ≡ number_at row k.port 0 16
  pub cost : e.cost ≡ number_at row (key_for row (codes "cost") k.cost) 20000 200000000
  pub priority : e.priority ≡ number_at row k.priority 128 240
  pub start : e.start ≡ state_of (text_at row k.state)
  pub services : e.services ≡ services_told known (get_member (key_for row (codes "services") k.services) row)

-- the link that a table describes, among bridges and services of these names
pub record IsLinkOf (bridges services : List (List ℕ)) (row : Members) (l : LinkPlan) : Type 0 where
  pub name : l.name ≡ text_at row (codes "name")
  pub a_bridge : number_from 1 bridges (text_at row (codes "a")) ≡ Some l.a.bridge
  pub b_bridge : number_from 1 bridges (text_at row (codes "b")) ≡ Some l.b.bridge
  pub apart : doubled_key row ≡ None
  pub both_services : are_known services (items_at row (codes "services")) ≡ true
  pub a_services : are_known services (items_at row (codes "a_services")) ≡ true
  pub b_services : are_known services (items_at row (codes "b_services")) ≡ true
  pub a : IsEndOf services row a_names l.a
  pub b : IsEndOf services row b_names l.b
  pub lost_ab : l.lost_ab ≡ naturals_in (items_at row (codes "lost_ab"))
  pub lost_ba : l.lost_ba ≡ naturals_in (items_at row (codes "lost_ba"))

-- the customer port that a table describes, among bridges and services of these names
pub record IsCustomerOf (bridges services : List (List ℕ)) (row : Members) (c : CustomerPlan) : Type 0 where
  pub name : c.name ≡ text_at row (codes "name")
  pub bridge : number_from 1 bridges (text_at row (codes "bridge")) ≡ Some c.bridge
  pub port : c.port ≡ number_at row (codes "port") 0 16
  pub service : number_from 1 services (text_at row (codes "service")) ≡ Some c.service
  pub pcp : c.pcp ≡ number_at row (codes "pcp") 0 7
  pub queue : c.queue ≡ number_at row (codes "queue") 64 4096

-- the frames of a list of hexadecimal texts
abbrev pub AreFrames : Items → List (List ℕ) → Type 0
AreFrames no_items [] = Unit {0}
AreFrames (item d ds) (frame ∷ frames) = IsHex (text_in d) frame × AreFrames ds frames
AreFrames ds frames = ⊥

-- the table is that of a customer port of this kind
abbrev pub has_kind : Members → List ℕ → Bool
has_kind row kind = same (text_at row (codes "kind")) kind

-- the stamp of records that a table gives: the time of day only if a clock ticks by time
abbrev pub IsStampOf : Limits → Members → Stamp → Type 0
IsStampOf limits row stamp =
    (stamp ≡ stamp_of (text_at row (codes "stamp"))) × (lacks_time limits (text_at row (codes "stamp")) ≡ false)

-- the pace at which the frames of a capture enter
abbrev pub pace_of : Members → Pace
pace_of row = if has_key row (codes "replay") then Times (number_at row (codes "speed") 1 1000) else AtOnce

-- the table has a speed for times that no frames enter by
abbrev pub has_vain_speed : Members → Bool
has_vain_speed row = has_key row (codes "speed") && not (has_key row (codes "replay"))

-- the pace that a table gives: by the times of records only if a clock ticks by time, and with a speed only by times
abbrev pub IsPaceOf : Limits → Members → Pace → Type 0
IsPaceOf limits row pace =
    (pace ≡ pace_of row) × (lacks_clock limits (has_key row (codes "replay")) ≡ false) × (has_vain_speed row ≡ false)

-- two addresses are both of IPv4 or both of IPv6
abbrev pub AreOneFamily : SocketAddr → SocketAddr → Type 0
AreOneFamily a b = is_ipv4 (socket_ip a) ≡ is_ipv4 (socket_ip b)

-- the two addresses that a table gives
abbrev pub AreAddressesOf : Members → SocketAddr → SocketAddr → Type 0
AreAddressesOf row local remote =
    IsSocketAddress (text_at row (codes "local")) local × IsSocketAddress (text_at row (codes "remote")) remote

-- the two addresses that a table gives are of different families
abbrev pub HasTwoFamilies : Members → Type 0
HasTwoFamilies row = (local remote : SocketAddr) × AreAddressesOf row local remote × (AreOneFamily local remote → ⊥)

-- the network in the header of each datagram, if datagrams have one
abbrev pub network_told : Members → Option ℕ
network_told row = if is_bare row then None else Some (number_at row (codes "vni") 0 16777215)

-- the octets of the length before each frame of a stream
abbrev pub framing_told : Members → LengthField
framing_told row = framing_of (number_at row (codes "framing") 2 4)

-- the kind of customer port that a table describes: a port with the key `listen` makes its socket
abbrev pub IsPortSpecOf : Limits → Members → PortSpec → Type 0
IsPortSpecOf limits row (Memory frames) =
    (has_kind row (codes "capture") ≡ false) × (has_kind row (codes "record") ≡ false) × (has_kind row (codes "replay") ≡ false)
    × (has_kind row (codes "socket") ≡ false) × (has_kind row (codes "udp") ≡ false) × AreFrames (items_at row (codes "in")) frames
IsPortSpecOf limits row (Capture read pace write stamp) =
    (has_kind row (codes "capture") ≡ true) × (read ≡ text_at row (codes "read")) × IsPaceOf limits row pace
    × (write ≡ text_at row (codes "write")) × IsStampOf limits row stamp
IsPortSpecOf limits row (Record write stamp) =
    (has_kind row (codes "record") ≡ true) × (write ≡ text_at row (codes "write")) × IsStampOf limits row stamp
IsPortSpecOf limits row (Replay read pace) =
    (has_kind row (codes "replay") ≡ true) × (read ≡ text_at row (codes "read")) × IsPaceOf limits row pace
IsPortSpecOf limits row (Socket path listens stays framing) =
    (has_kind row (codes "socket") ≡ true) × (listens ≡ has_key row (codes "listen"))
    × (path ≡ text_at row (if listens then codes "listen" else codes "path")) × (stays ≡ flag_told (get_member (codes "stay") row))
    × (framing ≡ framing_told row)
IsPortSpecOf limits row (Udp local remote network) =
    (has_kind row (codes "udp") ≡ true) × AreAddressesOf row local remote × AreOneFamily local remote × (network ≡ network_told row)

-- a table that keeps the rules of its keys, and what it describes
pub record IsRead {X : Type 0} (Tells : Members → X → Type 0) (keys : List KeyRule) (row : Members) (x : X) : Type 0 where
  pub accepted : IsAccepted keys row
  pub told : Tells row x

-- a table of a customer port that keeps the rules of the keys of its kind, and what it describes
pub record IsReadPort {X : Type 0} (Tells : Members → X → Type 0) (row : Members) (x : X) : Type 0 where
  pub accepted : IsAccepted (port_keys (text_at row (codes "kind")) (has_key row (codes "listen")) (is_bare row)) row
  pub told : Tells row x
