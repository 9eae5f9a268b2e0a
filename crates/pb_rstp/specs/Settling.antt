-- The eight stages after each call's own change: from roles and states to the BPDUs.
use Rattle.std.specs.Prelude.{ℕ, ◌+◌, Bool, true, false, List, [], ◌∷◌, Some, None, map, is_some, nat_lt, ◌==◌, ◌&&◌, ◌||◌, not, if◌then◌else◌}
use Rattle.std.specs.declared.option.Option.{Option}
use Rattle.std.specs.List.{flat_map, list_any, filter}
use Rattle.pb_bpdu.specs.declared.bpdu.Bpdu.{Bpdu}
use Rattle.pb_lan.specs.Rules.{from_to}
use Rattle.pb_lan.specs.declared.shape.PortState.{PortState}
use Rattle.pb_lan.specs.declared.shape.PortState.TheVariants.{Discarding, Forwarding}
use Rattle.pb_rstp.specs.Vectors.{is_same_vector}
use Rattle.pb_rstp.specs.Ports.{is_root, is_designated, is_root_or_designated, is_discarding, fwd_delay_of, root_info}
use Rattle.pb_rstp.specs.Ports.{designated_vector}
use Rattle.pb_lan.specs.Shapes.{is_forwarding}
use Rattle.pb_rstp.specs.declared.port.Port.{Port}
use Rattle.pb_rstp.specs.Roles.{root_vector, role_by}
use Rattle.pb_rstp.specs.Messages.{message_of, times_by, is_same_times}
use Rattle.pb_rstp.specs.declared.message.Offer.{Offer}
use Rattle.pb_rstp.specs.declared.change.Change.{Change}
use Rattle.pb_rstp.specs.declared.moving.Heard.{Heard}
use Rattle.pb_rstp.specs.declared.moving.Moving.{Moving}
use Rattle.pb_rstp.specs.declared.vector.Vector.{Vector}
use Rattle.pb_rstp.specs.declared.role.Role.{Role}
use Rattle.pb_rstp.specs.declared.role.Role.TheVariants.{Disabled, Root, Designated, Alternate, Backup}

-- the ports as they were before a call
abbrev pub befores : List Moving → List Port
befores ports = map (λ p. p.was) ports

-- the ports as they are now
abbrev pub nows : List Moving → List Port
nows ports = map (λ p. p.now) ports

-- a port is changed, by what it was before the call and what it is now
abbrev pub moved_on : (Port → Port → Port) → Moving → Moving
moved_on change p = record { was = p.was; now = change p.was p.now }

-- every port is changed so
abbrev pub each : (Port → Port → Port) → List Moving → List Moving
each change ports = map (moved_on change) ports

-- a port with the role that the root priority vector gives it (clause 17.21.25)
abbrev pub with_role : ℕ → Vector → Port → Port → Port
with_role id root was now = record now { role = role_by id root now }

-- stage 1: each port gets its role (clause 17.21.25)
abbrev pub with_roles : ℕ → List Moving → List Moving
with_roles id ports = each (with_role id (root_vector id (nows ports))) ports

-- a port without the flags `agreed` and `agree`
abbrev pub without_agreement : Port → Port → Port
without_agreement was now = record now { agreed = false; agree = false }

-- stage 2: no agreement holds after the root priority vector has changed (clause 17.27)
abbrev pub with_agreements : ℕ → List Moving → List Moving
with_agreements id ports =
    if is_same_vector (root_vector id (befores ports)) (root_vector id (nows ports)) then ports else each without_agreement ports

-- a Designated port clears what it stores, and sets newInfo (clause 17.27)
abbrev pub without_info : Port → Port → Port
without_info was now =
    if is_designated now.role && is_some now.info then record now { info = None; new_info = true } else now

-- stage 3: each Designated port clears what it stores (clause 17.27)
abbrev pub with_infos : List Moving → List Moving
with_infos ports = each without_info ports

-- a port is Discarding, fdWhile starts, and newInfo is set (clause 17.29.3)
abbrev pub held_back : ℕ → Port → Port
held_back fwd_delay now = record now { state = Discarding; fd_while = fwd_delay; new_info = true }

-- a port whose neighbour has agreed is Forwarding at once (clause 17.29.3)
abbrev pub forwarding_if_agreed : Port → Port
forwarding_if_agreed now = if now.agreed then record now { state = Forwarding } else now

-- a port that becomes Designated is Discarding first; a Designated port forwards at once if its neighbour has agreed
-- (clause 17.29.3)
abbrev pub designated_state : ℕ → Port → Port → Port
designated_state fwd_delay was now =
    forwarding_if_agreed (if is_designated was.role then now else held_back fwd_delay now)

-- the state of a port by its role: a Root port forwards, a Disabled, Alternate or Backup port discards (clause 17.29)
abbrev pub state_by : ℕ → Role → Port → Port → Port
state_by fwd_delay Root was now = record now { state = Forwarding }
state_by fwd_delay Designated was now = designated_state fwd_delay was now
state_by fwd_delay Disabled was now = record now { state = Discarding }
state_by fwd_delay Alternate was now = record now { state = Discarding }
state_by fwd_delay Backup was now = record now { state = Discarding }

-- the port's state by its own role (clause 17.29)
abbrev pub with_state : ℕ → Port → Port → Port
with_state fwd_delay was now = state_by fwd_delay now.role was now

-- stage 4: each port gets its state (clause 17.29)
abbrev pub with_states : List Moving → List Moving
with_states ports = each (with_state (fwd_delay_of (nows ports))) ports

-- Stage 5: a proposal is agreed to.

-- the received BPDU has the proposal flag and was stored (clause 17.21.11)
abbrev pub is_proposed : Heard → Bool
is_proposed heard = heard.bpdu.proposal && heard.stored

-- the port with this number agrees to a proposal, unless it is Designated (clause 17.29.2)
abbrev pub is_agreeing : ℕ → Port → Bool
is_agreeing number now = now.number == number && not (is_designated now.role)

-- the Root port is the one that agrees to a proposal
abbrev pub is_root_agreeing : ℕ → Port → Bool
is_root_agreeing number now = now.number == number && is_root now.role

-- a Designated port whose neighbour has not agreed is Discarding, so that no forwarding loop forms (clause 17.21.14)
abbrev pub synced : ℕ → Port → Port → Port
synced fwd_delay was now =
    if is_designated now.role && not now.agreed && not (is_discarding now.state) then held_back fwd_delay now else now

-- the agreeing port sets `agree` and newInfo (clause 17.29.2)
abbrev pub agreeing : ℕ → Port → Port → Port
agreeing number was now = if is_agreeing number now then record now { agree = true; new_info = true } else now

-- a port agrees to a proposal; if it is the Root port, Designated ports without an agreement are Discarding first
-- (clauses 17.21.14 and 17.29.2)
abbrev pub with_agreement_at : ℕ → List Moving → List Moving
with_agreement_at number ports =
    each (agreeing number)
    (if list_any (is_root_agreeing number) (nows ports) then each (synced (fwd_delay_of (nows ports))) ports else ports)

-- stage 5: a proposal is agreed to (clauses 17.21.11, 17.21.14 and 17.29.2)
abbrev pub with_proposal : Option Heard → List Moving → List Moving
with_proposal None ports = ports
with_proposal (Some heard) ports = if is_proposed heard then with_agreement_at heard.port ports else ports

-- Stage 6: topology changes.

-- the port became Forwarding in this call
abbrev pub has_opened : Moving → Bool
has_opened p = is_forwarding p.now.state && not (is_forwarding p.was.state)

-- the port left Learning or Forwarding in this call
abbrev pub has_closed : Moving → Bool
has_closed p = is_discarding p.now.state && not (is_discarding p.was.state)

-- the port that received a topology change, if it is Root or Designated (clause 17.21.17)
abbrev pub changed_at : Option Heard → List Moving → List ℕ
changed_at None ports = []
changed_at (Some heard) ports =
    if heard.bpdu.change && list_any (λ p. p.now.number == heard.port && is_root_or_designated p.now.role) ports
    then heard.port ∷ [] else []

-- a topology change was detected or received at another port than this one (clause 17.21.18)
abbrev pub is_news_elsewhere : Option Heard → List Moving → Port → Bool
is_news_elsewhere heard ports now =
    list_any (λ p. has_opened p && not (p.now.number == now.number)) ports
    || list_any (λ number. not (number == now.number)) (changed_at heard ports)

-- the stations learned at this port are forgotten (clause 17.31)
abbrev pub is_flushed : Option Heard → List Moving → Moving → Bool
is_flushed heard ports p = is_news_elsewhere heard ports p.now || has_closed p

-- the port of a prompt bridge reports a topology change already: its tcWhile runs (clause 17.21.7)
abbrev pub is_reporting : Bool → Port → Bool
is_reporting prompt now = prompt && nat_lt 0 now.tc_while

-- the port starts to report a topology change: some port became Forwarding, or another port received one (clauses
-- 17.21.18 and 17.31); at a prompt bridge only if it does not report one already (clause 17.21.7)
abbrev pub is_telling : Bool → Option Heard → List Moving → Port → Bool
is_telling prompt heard ports now =
    is_root_or_designated now.role
    && (list_any has_opened ports || list_any (λ number. not (number == now.number)) (changed_at heard ports))
    && not (is_reporting prompt now)

-- a port that starts to report a topology change sets tcWhile and newInfo (clause 17.21.7)
abbrev pub with_tc_while : Bool → Option Heard → List Moving → Port → Port → Port
with_tc_while prompt heard ports was now =
    if is_telling prompt heard ports now then record now { tc_while = 3; new_info = true } else now

-- stage 6: topology changes are passed on (clauses 17.21.17, 17.21.18 and 17.31)
abbrev pub with_topology : Bool → Option Heard → List Moving → List Moving
with_topology prompt heard ports = each (with_tc_while prompt heard ports) ports

-- Stage 7, at a prompt bridge: a port that stays Designated sends if its designated priority vector or its times have
-- changed in this call (updtRolesTree, clause 17.21.25, and state UPDATE of clause 17.27).

-- the root priority vector and the times of a bridge's BPDUs
abbrev pub offer_by : ℕ → List Port → Offer
offer_by id ports = record { root = root_vector id ports; times = times_by (root_info ports) }

-- the port's designated priority vector is the same as before, and so are the times
abbrev pub is_same_offer : ℕ → Offer → Port → Offer → Port → Bool
is_same_offer id before was after now =
    is_same_vector (designated_vector id before.root was) (designated_vector id after.root now)
    && is_same_times before.times after.times

-- the port stays Designated, and what it offers has changed (clause 17.21.25)
abbrev pub is_updated : ℕ → Offer → Offer → Port → Port → Bool
is_updated id before after was now =
    is_designated was.role && is_designated now.role && not (is_same_offer id before was after now)

-- a port whose offer has changed sets newInfo (clause 17.27, state UPDATE)
abbrev pub with_update : ℕ → Offer → Offer → Port → Port → Port
with_update id before after was now =
    if is_updated id before after was now then record now { new_info = true } else now

-- stage 7, at a prompt bridge: each port whose offer has changed sends (clause 17.27, state UPDATE)
abbrev pub with_updates : Bool → ℕ → List Moving → List Moving
with_updates prompt id ports =
    if prompt then each (with_update id (offer_by id (befores ports)) (offer_by id (nows ports))) ports else ports

-- the port sends: it is enabled, newInfo is set, and txCount is below TxHoldCount (clauses 17.13.12 and 17.26)
abbrev pub is_sending : Port → Bool
is_sending now = now.port_enabled && now.new_info && nat_lt now.tx_count 6

-- a port after it has sent its BPDU (clause 17.26)
abbrev pub after_sending : Port → Port → Port
after_sending was now = if is_sending now then record now { new_info = false; tx_count = now.tx_count + 1 } else now

-- stage 8: each port that may send has sent (clause 17.26)
abbrev pub with_sent : List Moving → List Moving
with_sent ports = each after_sending ports

-- stages 1 to 4: roles, agreements, stored information and states
abbrev pub in_line : ℕ → List Moving → List Moving
in_line id ports = with_states (with_infos (with_agreements id (with_roles id ports)))

-- stages 1 to 7: all that is done before BPDUs are sent
abbrev pub settled : Bool → ℕ → Option Heard → List Moving → List Moving
settled prompt id heard ports = with_updates prompt id (with_topology prompt heard (with_proposal heard (in_line id ports)))

-- the ports whose state differs from that before the call, with their new states
abbrev pub state_changes : List Moving → List (ℕ × PortState)
state_changes ports = flat_map (λ p. from_to p.now.number p.was.state p.now.state) ports

-- the ports at which stations are forgotten
abbrev pub flushed : Option Heard → List Moving → List ℕ
flushed heard ports = map (λ p. p.now.number) (filter (is_flushed heard ports) ports)

-- the BPDUs that are sent, with their ports
abbrev pub sent : ℕ → List Port → List (ℕ × Bpdu)
sent id ports = map (λ p. (p.number, message_of id ports p)) (filter is_sending ports)

-- the changes that a call returns
abbrev pub change_of : ℕ → Option Heard → List Moving → Change
change_of id heard ports = record {
  states = state_changes ports;
  flush = flushed heard ports;
  send = sent id (nows ports);
}
