-- The three calls: a bridge receives a BPDU, a second passes, a port is enabled or disabled.
use Rattle.std.specs.Prelude.{ℕ, ◌-◌, Bool, true, false, List, [], Some, None, map, nat_lt, ◌==◌, ◌&&◌, ◌||◌, not, if◌then◌else◌}
use Rattle.std.specs.declared.option.Option.{Option}
use Rattle.pb_bpdu.specs.declared.bpdu.Bpdu.{Bpdu}
use Rattle.pb_lan.specs.declared.shape.PortState.{PortState}
use Rattle.pb_lan.specs.declared.shape.PortState.TheVariants.{Discarding, Learning, Forwarding}
use Rattle.pb_rstp.specs.Ports.{Machine, is_root, is_designated, port_of, fwd_delay_of}
use Rattle.pb_lan.specs.Shapes.{is_forwarding}
use Rattle.pb_rstp.specs.declared.port.Info.{Info}
use Rattle.pb_rstp.specs.declared.port.Port.{Port}
use Rattle.pb_rstp.specs.Roles.{root_vector}
use Rattle.pb_rstp.specs.Messages.{is_from_designated, is_agreement, is_superior, is_young, info_of}
use Rattle.pb_rstp.specs.Settling.{nows, settled, with_sent, change_of}
use Rattle.pb_rstp.specs.declared.moving.Moving.{Moving}
use Rattle.pb_rstp.specs.declared.moving.Heard.{Heard}
use Rattle.pb_rstp.specs.declared.change.Change.{Change}
use Rattle.pb_rstp.specs.declared.own_change.OwnChange.{OwnChange}
use Rattle.pb_rstp.specs.declared.own_change.OwnChange.TheVariants.{Hearing, Ticking, Setting}
use Rattle.pb_rstp.specs.declared.vector.Vector.{Vector}

-- a bridge after a call, and the changes that the call returns
pub record After : Type 0 where
  pub machine : Machine
  pub change : Change

-- no changes
abbrev pub nothing : Change
nothing = record { states = []; flush = []; send = [] }

-- a port before a call, and with the call's own change
abbrev pub moving : (Port → Port) → Port → Moving
moving change p = record { was = p; now = change p }

-- all ports before a call, and with the call's own change
abbrev pub moved_by : (Port → Port) → List Port → List Moving
moved_by change ports = map (moving change) ports

-- the end of a call: ports with newInfo send their BPDUs, and the changes are returned
abbrev pub finished : Bool → ℕ → ℕ → Option Heard → List Moving → After
finished prompt id hello_when heard ports = record {
  machine = record { id = id; prompt = prompt; ports = nows (with_sent ports); hello_when = hello_when };
  change = change_of id heard ports;
}

-- what follows each call's own change: roles, states and flags are computed anew, and BPDUs are sent
abbrev pub settle : Bool → ℕ → ℕ → Option Heard → List Moving → After
settle prompt id hello_when heard ports = finished prompt id hello_when heard (settled prompt id heard ports)

-- A bridge receives a BPDU.

-- the BPDU replaces what the port stores, or clears it if it is too old (clauses 17.21.8 and 17.27)
abbrev pub takes_place : Bpdu → Port → Bool
takes_place m p = is_from_designated m && is_superior m p.info

-- the port stores the BPDU's information
abbrev pub is_stored : Bpdu → Port → Bool
is_stored m p = takes_place m p && is_young m

-- a port after the Port Information machine has processed a BPDU (clause 17.27)
abbrev pub with_news : Bpdu → Port → Port
with_news m p = if takes_place m p then record p { info = if is_young m then Some (info_of m) else None } else p

-- the neighbour at a Designated port agrees to the bridge's root (clause 17.21.9)
abbrev pub has_agreed : Vector → Bpdu → Port → Bool
has_agreed root m p = is_agreement m && is_designated p.role && m.root == root.root

-- a port with `agreed` set, if its neighbour agrees (clause 17.21.9)
abbrev pub with_answer : Vector → Bpdu → Port → Port
with_answer root m p = if has_agreed root m p then record p { agreed = true } else p

-- all that a BPDU changes at the port that received it, before roles are computed
abbrev pub hearing : Vector → ℕ → Bpdu → Port → Port
hearing root port m p = if p.number == port then with_answer root m (with_news m p) else p

-- what the later stages read of the BPDU: its port, itself, and whether it was stored
abbrev pub heard_at : Bpdu → Port → Heard
heard_at m p = record { port = p.number; bpdu = m; stored = is_stored m p }

-- an enabled port receives a BPDU
abbrev pub hear_at : Machine → Bpdu → Port → After
hear_at machine m p =
    settle machine.prompt machine.id machine.hello_when (Some (heard_at m p))
    (moved_by (hearing (root_vector machine.id machine.ports) p.number m) machine.ports)

-- nothing changes, and nothing is sent
abbrev pub unchanged : Machine → After
unchanged machine = record { machine = machine; change = nothing }

-- a disabled port, or one that the bridge lacks, receives nothing
abbrev pub hear_by : Machine → Bpdu → Option Port → After
hear_by machine m None = unchanged machine
hear_by machine m (Some p) = if p.port_enabled then hear_at machine m p else unchanged machine

-- the port with this number receives a BPDU
abbrev pub after_hear : Machine → ℕ → Bpdu → After
after_hear machine port m = hear_by machine m (port_of machine.ports port)

-- A second passes.

-- rcvdInfoWhile runs down, and the information expires with it (clauses 17.22 and 17.27)
abbrev pub aged_by : Info → Option Info
aged_by info =
    if nat_lt 1 info.rcvd_info_while then Some (record info { rcvd_info_while = info.rcvd_info_while - 1 }) else None

-- what a port stores, one second later
abbrev pub aged : Option Info → Option Info
aged None = None
aged (Some info) = aged_by info

-- a port whose txCount, tcWhile and rcvdInfoWhile have run down by one (clause 17.22)
abbrev pub with_timers : Port → Port
with_timers p = record p { tx_count = p.tx_count - 1; tc_while = p.tc_while - 1; info = aged p.info }

-- a port whose fdWhile has expired enters its next state: Learning, and then Forwarding (clause 17.29.3)
abbrev pub opened_by : ℕ → PortState → Port → Port
opened_by fwd_delay Discarding p = record p { state = Learning; fd_while = fwd_delay }
opened_by fwd_delay Learning p = record p { state = Forwarding; fd_while = 0 }
opened_by fwd_delay Forwarding p = p

-- fdWhile of a Designated port runs down, and the port enters its next state when it expires (clause 17.29.3)
abbrev pub opened : ℕ → Port → Port
opened fwd_delay p =
    if nat_lt 1 p.fd_while then record p { fd_while = p.fd_while - 1 } else opened_by fwd_delay p.state p

-- the same for the ports that wait: Designated ones that are not Forwarding
abbrev pub with_opening : ℕ → Port → Port
with_opening fwd_delay p = if is_designated p.role && not (is_forwarding p.state) then opened fwd_delay p else p

-- the port sends when helloWhen expires: a Designated port, or a Root port that reports a topology change (clause
-- 17.26)
abbrev pub is_hello : Port → Bool
is_hello p = is_designated p.role || (is_root p.role && nat_lt 0 p.tc_while)

-- a port with newInfo set, if helloWhen has expired and the port sends then (clause 17.26)
abbrev pub with_hello : Bool → Port → Port
with_hello hello p = if hello && is_hello p then record p { new_info = true } else p

-- all that a second changes at a port, before roles are computed
abbrev pub ticking : ℕ → Bool → Port → Port
ticking fwd_delay hello p = with_hello hello (with_opening fwd_delay (with_timers p))

-- helloWhen expires at this second (clause 17.17.3)
abbrev pub is_hello_tick : Machine → Bool
is_hello_tick machine = not (nat_lt 1 machine.hello_when)

-- helloWhen after a second; it starts again at 2, the Hello Time
abbrev pub hello_when_after : Machine → ℕ
hello_when_after machine = if is_hello_tick machine then 2 else machine.hello_when - 1

-- a second passes
abbrev pub after_tick : Machine → After
after_tick machine =
    settle machine.prompt machine.id (hello_when_after machine) None
    (moved_by (ticking (fwd_delay_of machine.ports) (is_hello_tick machine)) machine.ports)

-- A port is enabled or disabled.

-- a port that is enabled or disabled: it stores nothing, and a disabled port sends nothing
abbrev pub with_admin : Bool → Port → Port
with_admin true p = record p { port_enabled = true; info = None }
with_admin false p = record p {
  port_enabled = false;
  info = None;
  agreed = false;
  agree = false;
  new_info = false;
  fd_while = 0;
  tc_while = 0;
}

-- the port with this number is enabled or disabled
abbrev pub setting : ℕ → Bool → Port → Port
setting port up p = if p.number == port then with_admin up p else p

-- a port is enabled or disabled, and differs from before
abbrev pub admin_at : Machine → ℕ → Bool → After
admin_at machine port up =
    settle machine.prompt machine.id machine.hello_when None (moved_by (setting port up) machine.ports)

-- the port is already enabled, or already disabled
abbrev pub is_same_setting : Bool → Bool → Bool
is_same_setting true up = up
is_same_setting false up = not up

-- enabling an enabled port, or disabling a disabled one, changes nothing
abbrev pub admin_by : Machine → ℕ → Bool → Option Port → After
admin_by machine port up None = unchanged machine
admin_by machine port up (Some p) =
    if is_same_setting p.port_enabled up then unchanged machine else admin_at machine port up

-- the port with this number is enabled or disabled
abbrev pub after_admin : Machine → ℕ → Bool → After
after_admin machine port up = admin_by machine port up (port_of machine.ports port)

-- A call's own change, as the code holds it.

-- a port with a call's own change
abbrev pub own_change : OwnChange → Port → Port
own_change (Hearing root port m) p = hearing root port m p
own_change (Ticking fwd_delay hello) p = ticking fwd_delay hello p
own_change (Setting port up) p = setting port up p
