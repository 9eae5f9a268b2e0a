-- After each call a bridge is in line: roles and states are right.
use Rattle.std.proofs.Common.{◌≡◌, ℕ, zero, suc, ◌≤◌, ◌+◌, List, [], ◌∷◌, Some, None, refl, sym, ap, ◌∙◌, subst, Bool}
use Rattle.std.proofs.Common.{true, false, ◌==◌, ◌&&◌, not, if◌then◌else◌, map, arith}
use Rattle.std.specs.declared.option.Option.{Option}
use Rattle.std.specs.List.{flat_map, list_any, AllByRecursion}
use Rattle.std.proofs.lemmas.Bool.{eqb-true}
use Rattle.pb_lan.specs.Rules.{Cause}
use Rattle.pb_rstp.specs.Vectors.{own_vector, port_id}
use Rattle.pb_rstp.specs.Ports.{Machine, start, fresh, is_designated, is_root_or_designated, is_discarding}
use Rattle.pb_rstp.specs.Ports.{fwd_delay_of}
use Rattle.pb_rstp.specs.declared.port.Port.{Port}
use Rattle.pb_rstp.specs.Roles.{offers, best, root_vector}
use Rattle.pb_rstp.specs.Settling.{nows, each, with_roles, with_agreements, with_infos, held_back, state_by}
use Rattle.pb_rstp.specs.Settling.{with_state, synced, agreeing, with_agreement_at, with_proposal, is_proposed}
use Rattle.pb_rstp.specs.Settling.{is_root_agreeing, is_agreeing, with_tc_while, is_telling, is_sending}
use Rattle.pb_rstp.specs.Settling.{after_sending, with_sent, in_line, settled, with_topology, befores, offer_by}
use Rattle.pb_rstp.specs.Settling.{is_updated, with_update}
use Rattle.pb_rstp.specs.declared.message.Offer.{Offer}
use Rattle.pb_rstp.specs.declared.moving.Moving.{Moving}
use Rattle.pb_rstp.specs.declared.moving.Heard.{Heard}
use Rattle.pb_rstp.specs.Machine.{settle, moving, moved_by}
use Rattle.pb_rstp.specs.Profile.{after}
use Rattle.pb_rstp.specs.Laws.{IsQuiet, IsInLine}
use Rattle.pb_rstp.specs.Readings.{AreAbove}
use Rattle.pb_rstp.specs.Rising.{AreRising}
use Rattle.pb_rstp.proofs.RisingLaws.{rises-above}
use Rattle.pb_rstp.specs.declared.config.RstpPort.{RstpPort}
use Rattle.pb_rstp.specs.declared.role.Role.{Role}
use Rattle.pb_rstp.specs.declared.role.Role.TheVariants.{Root, Designated}
use Rattle.pb_rstp.proofs.CallLaws.{after-each}
use Rattle.pb_rstp.proofs.RoleLaws.{HasRoleBy, each-all, keeps-state, roles_settled, roles_related}

-- Ports that are neither Root nor Designated are Discarding after each stage.

-- of two ports that are quiet, either choice is
quiet-if : (b : Bool) (p q : Port) → IsQuiet p → IsQuiet q → IsQuiet (if b then p else q)
quiet-if true p q hp hq = hp
quiet-if false p q hp hq = hq

-- a port whose state follows from its role is quiet
quiet_state : (fwd_delay : ℕ) (was now : Port) → IsQuiet (with_state fwd_delay was now)
quiet_state fwd_delay was now = by_role now.role refl
  where
    by_role : (r : Role) → now.role ≡ r → IsQuiet (state_by fwd_delay r was now)
    by_role Root e = λ none. let yes = ap is_root_or_designated e in cc
    by_role Designated e = λ none.
        let same : (state_by fwd_delay Designated was now).role ≡ Designated = let P : Role
        → Type 0 = λ r. (state_by fwd_delay r was now).role ≡ now.role in subst P e (keeps-state fwd_delay was now).role
        ∙ e in
        let yes = ap is_root_or_designated same in cc
    by_role _ e = λ none. refl

-- a change that keeps each port quiet keeps all ports quiet
quiet-each : (f : Port → Port → Port) → ((was now : Port) → IsQuiet now → IsQuiet (f was now)) → (ports : List Moving)
    → AllByRecursion IsQuiet (nows ports) → AllByRecursion IsQuiet (nows (each f ports))
quiet-each f keeps ports h = each-all IsQuiet IsQuiet f keeps ports h

-- after stage 4 all ports are quiet
quiet_states : (fwd_delay : ℕ) (ports : List Moving) → AllByRecursion IsQuiet (nows (each (with_state fwd_delay) ports))
quiet_states fwd_delay [] = tt
quiet_states fwd_delay (p ∷ ps) = (quiet_state fwd_delay p.was p.now, quiet_states fwd_delay ps)

-- of two lists of quiet ports, either choice is quiet
quiet-or : (b : Bool) (ps qs : List Moving) → AllByRecursion IsQuiet (nows ps) → AllByRecursion IsQuiet (nows qs)
    → AllByRecursion IsQuiet (nows (if b then ps else qs))
quiet-or true ps qs hp hq = hp
quiet-or false ps qs hp hq = hq

-- a Designated port that is held back stays quiet
quiet_synced : (fwd_delay : ℕ) (was now : Port) → IsQuiet now → IsQuiet (synced fwd_delay was now)
quiet_synced fwd_delay was now h =
    quiet-if (is_designated now.role && not now.agreed && not (is_discarding now.state)) (held_back fwd_delay now) now
    (λ none. refl) h

-- a port that agrees stays quiet
quiet_agreeing : (number : ℕ) (was now : Port) → IsQuiet now → IsQuiet (agreeing number was now)
quiet_agreeing number was now h =
    quiet-if (is_agreeing number now) (record now { agree = true; new_info = true }) now h h

-- a port that reports a topology change stays quiet
quiet_tc_while : (prompt : Bool) (heard : Option Heard) (ports : List Moving) (was now : Port) → IsQuiet now
    → IsQuiet (with_tc_while prompt heard ports was now)
quiet_tc_while prompt heard ports was now h =
    quiet-if (is_telling prompt heard ports now) (record now { tc_while = 3; new_info = true }) now h h

-- a port that sends an update stays quiet
quiet_update : (id : ℕ) (before after : Offer) (was now : Port) → IsQuiet now
    → IsQuiet (with_update id before after was now)
quiet_update id before after was now h =
    quiet-if (is_updated id before after was now) (record now { new_info = true }) now h h

-- a port that sends stays quiet
quiet_sending : (was now : Port) → IsQuiet now → IsQuiet (after_sending was now)
quiet_sending was now h =
    quiet-if (is_sending now) (record now { new_info = false; tx_count = now.tx_count + 1 }) now h h

-- after stage 5 all ports are quiet
quiet_proposal : (heard : Option Heard) (ports : List Moving) → AllByRecursion IsQuiet (nows ports)
    → AllByRecursion IsQuiet (nows (with_proposal heard ports))
quiet_proposal None ports h = h
quiet_proposal (Some heard) ports h =
    quiet-or (is_proposed heard) (with_agreement_at heard.port ports) ports
    (quiet-each (agreeing heard.port) (quiet_agreeing heard.port) _
    (quiet-or (list_any (is_root_agreeing heard.port) (nows ports))
    (each (synced (fwd_delay_of (nows ports))) ports) ports
    (quiet-each (synced (fwd_delay_of (nows ports))) (quiet_synced (fwd_delay_of (nows ports))) ports h) h)) h

-- after all stages all ports are quiet
quiet_settled : (prompt : Bool) (id : ℕ) (heard : Option Heard) (ports : List Moving)
    → AllByRecursion IsQuiet (nows (with_sent (settled prompt id heard ports)))
quiet_settled prompt id heard ports =
    let infos = with_infos (with_agreements id (with_roles id ports)) in
    let fourth : AllByRecursion IsQuiet (nows (in_line id ports)) = quiet_states (fwd_delay_of (nows infos)) infos in
    let proposed = with_proposal heard (in_line id ports) in
    let reported = with_topology prompt heard proposed in
    let sixth : AllByRecursion IsQuiet (nows reported) =
    quiet-each (with_tc_while prompt heard proposed) (quiet_tc_while prompt heard proposed) proposed
    (quiet_proposal heard (in_line id ports) fourth) in
    let before = offer_by id (befores reported) in
    let after = offer_by id (nows reported) in
    let seventh : AllByRecursion IsQuiet (nows (settled prompt id heard ports)) =
    quiet-or prompt (each (with_update id before after) reported) reported
    (quiet-each (with_update id before after) (quiet_update id before after) reported sixth) sixth in
    quiet-each after_sending quiet_sending (settled prompt id heard ports) seventh

-- Each call.

-- a bridge is in line after all stages
pub settled_in_line : (prompt : Bool) (id hello_when : ℕ) (heard : Option Heard) (ports : List Moving)
    → IsInLine (settle prompt id hello_when heard ports).machine
settled_in_line prompt id hello_when heard ports =
    let h = roles_settled prompt id heard ports in
    record {
      roles = roles_related id (root_vector id (nows ports)) (nows (with_sent (settled prompt id heard ports)))
          (nows (with_sent (settled prompt id heard ports))) h.0 h.1;
      states = quiet_settled prompt id heard ports;
    }

-- a bridge that is in line is in line after every call
pub calls_keep_line : (machine : Machine) (cause : Cause) → IsInLine machine → IsInLine (after machine cause).machine
calls_keep_line machine cause h =
    after-each (λ a. IsInLine a.machine) machine h
    (λ hello_when heard change same. settled_in_line machine.prompt machine.id hello_when heard
    (moved_by change machine.ports)) cause

-- The bridge at the start.

-- at the start no port offers a path to a root
no_offers : (id : ℕ) (ports : List RstpPort) → flat_map (offers id) (map fresh ports) ≡ []
no_offers id [] = refl
no_offers id (p ∷ ps) = no_offers id ps

-- at the start a bridge is its own root
own_root : (id : ℕ) (ports : List RstpPort) → root_vector id (map fresh ports) ≡ own_vector id
own_root id ports = ap (λ os. best (own_vector id) os) (no_offers id ports)

-- a number from 1 on is not 0
not_zero : (n : ℕ) → 1 ≤ n → (0 == n) ≡ false
not_zero zero h = absurd (omega arith)
not_zero (suc n) h = elim (0 == suc n) as (λ t. (0 == suc n) ≡ t → (0 == suc n) ≡ false)
    [ true ↦ λ e. absurd (omega (arith, eqb-true 0 (suc n) e)) | false ↦ λ e. e ] refl

-- at the start a port's role is Designated
fresh_role : (id : ℕ) (p : RstpPort) → 1 ≤ p.port → HasRoleBy id (own_vector id) (fresh p)
fresh_role id p above =
    ap (λ c. if c then Root else Designated) (sym (not_zero (port_id p.priority p.port) (omega arith)))

-- the same for all ports
fresh_roles : (id : ℕ) (ports : List RstpPort) → AllByRecursion (λ p. 1 ≤ p.port) ports
    → AllByRecursion (HasRoleBy id (own_vector id)) (map fresh ports)
fresh_roles id [] h = tt
fresh_roles id (p ∷ ps) h = (fresh_role id p h.0, fresh_roles id ps h.1)

-- at the start all ports are quiet
fresh_quiet : (ports : List RstpPort) → AllByRecursion IsQuiet (map fresh ports)
fresh_quiet [] = tt
fresh_quiet (p ∷ ps) = (λ none. refl, fresh_quiet ps)

-- a bridge is in line at the start
pub start_is_in_line : (prompt : Bool) (id : ℕ) (ports : List RstpPort) → AllByRecursion (λ p. 1 ≤ p.port) ports
    → IsInLine (start prompt id ports)
start_is_in_line prompt id ports above = record {
  roles = roles_related id (own_vector id) (map fresh ports) (map fresh ports) (own_root id ports)
      (fresh_roles id ports above);
  states = fresh_quiet ports;
}

-- port numbers that rise from 0 are at least 1
pub above_zero : (n : ℕ) (ports : List RstpPort) → AreAbove n ports → AllByRecursion (λ p. 1 ≤ p.port) ports
above_zero n [] h = tt
above_zero n (p ∷ ps) h = (omega (arith, h.0.0), above_zero p.port ps h.1)

-- the ports at the start, as the code makes them
pub fresh_now : (ports : List RstpPort) → nows (map (λ p. moving (λ q. q) (fresh p)) ports) ≡ map fresh ports
fresh_now [] = refl
fresh_now (p ∷ ps) = ap (λ qs. fresh p ∷ qs) (fresh_now ps)

-- the ports at the start have rising numbers
pub fresh_rising : (n : ℕ) (ports : List RstpPort) → AreAbove n ports
    → AreRising n (map (λ p. p.number) (map fresh ports))
fresh_rising n [] h = (tt, tt)
fresh_rising n (p ∷ ps) h = rises-above n p.port h.0.0 (map (λ p. p.number) (map fresh ps)) (fresh_rising p.port ps h.1)
