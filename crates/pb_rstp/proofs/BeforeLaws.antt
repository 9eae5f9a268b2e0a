-- A call keeps its ports as they were before it.
use Rattle.std.proofs.Common.{◌≡◌, ℕ, List, [], ◌∷◌, Some, None, refl, ap, ◌∙◌, Bool, true, false, if◌then◌else◌}
use Rattle.std.specs.declared.option.Option.{Option}
use Rattle.std.specs.List.{list_any}
use Rattle.pb_rstp.specs.Machine.{moved_by}
use Rattle.pb_rstp.specs.Ports.{fwd_delay_of}
use Rattle.pb_rstp.specs.Roles.{root_vector}
use Rattle.pb_rstp.specs.Vectors.{is_same_vector}
use Rattle.pb_rstp.specs.Settling.{befores, nows, each, with_role, with_roles, without_agreement, with_agreements}
use Rattle.pb_rstp.specs.Settling.{without_info, with_infos, with_state, in_line, is_proposed}
use Rattle.pb_rstp.specs.Settling.{is_root_agreeing, synced, agreeing, with_agreement_at, with_proposal}
use Rattle.pb_rstp.specs.Settling.{with_tc_while, with_topology, offer_by, with_update, settled}
use Rattle.pb_rstp.specs.declared.moving.Heard.{Heard}
use Rattle.pb_rstp.specs.declared.moving.Moving.{Moving}
use Rattle.pb_rstp.specs.declared.port.Port.{Port}

-- a change of each port keeps them
pub befores-each : (f : Port → Port → Port) (ms : List Moving) → befores (each f ms) ≡ befores ms
befores-each f [] = refl
befores-each f (m ∷ ms) = ap (λ ps. m.was ∷ ps) (befores-each f ms)

-- of two lists that have the same, either choice has them
befores-if : (b : Bool) (ms ns : List Moving) (ps : List Port) → befores ms ≡ ps → befores ns ≡ ps
    → befores (if b then ms else ns) ≡ ps
befores-if true ms ns ps hm hn = hm
befores-if false ms ns ps hm hn = hn

-- a call's own change keeps them
pub befores-moved : (change : Port → Port) (ps : List Port) → befores (moved_by change ps) ≡ ps
befores-moved change [] = refl
befores-moved change (p ∷ ps) = ap (λ qs. p ∷ qs) (befores-moved change ps)

-- stage 1 keeps them
pub befores-roles : (id : ℕ) (ms : List Moving) → befores (with_roles id ms) ≡ befores ms
befores-roles id ms = befores-each (with_role id (root_vector id (nows ms))) ms

-- stages 1 to 4 keep them
pub befores-in_line : (id : ℕ) (ms : List Moving) → befores (in_line id ms) ≡ befores ms
befores-in_line id ms =
    let roles = with_roles id ms in
    let agreements = with_agreements id roles in
    let infos = with_infos agreements in
    befores-each (with_state (fwd_delay_of (nows infos))) infos
    ∙ befores-each without_info agreements
    ∙ befores-if (is_same_vector (root_vector id (befores roles)) (root_vector id (nows roles))) roles
    (each without_agreement roles)
    (befores ms) (befores-roles id ms) (befores-each without_agreement roles ∙ befores-roles id ms)

-- stage 5 keeps them
pub befores-proposal : (heard : Option Heard) (ms : List Moving) → befores (with_proposal heard ms) ≡ befores ms
befores-proposal None ms = refl
befores-proposal (Some heard) ms =
    befores-if (is_proposed heard) (with_agreement_at heard.port ms) ms (befores ms)
    (befores-each (agreeing heard.port) _
    ∙ befores-if (list_any (is_root_agreeing heard.port) (nows ms)) (each (synced (fwd_delay_of (nows ms))) ms) ms
    (befores ms) (befores-each (synced (fwd_delay_of (nows ms))) ms) refl) refl

-- stage 6 keeps them
pub befores-topology : (prompt : Bool) (heard : Option Heard) (ms : List Moving) → befores (with_topology prompt heard ms) ≡ befores ms
befores-topology prompt heard ms = befores-each (with_tc_while prompt heard ms) ms

-- stages 1 to 6 keep them
pub befores-reported : (prompt : Bool) (id : ℕ) (heard : Option Heard) (ms : List Moving)
    → befores (with_topology prompt heard (with_proposal heard (in_line id ms))) ≡ befores ms
befores-reported prompt id heard ms =
    befores-topology prompt heard (with_proposal heard (in_line id ms))
    ∙ befores-proposal heard (in_line id ms) ∙ befores-in_line id ms

-- stages 1 to 7 keep them
pub befores-settled : (prompt : Bool) (id : ℕ) (heard : Option Heard) (ms : List Moving)
    → befores (settled prompt id heard ms) ≡ befores ms
befores-settled prompt id heard ms =
    let reported = with_topology prompt heard (with_proposal heard (in_line id ms)) in
    befores-if prompt (each (with_update id (offer_by id (befores reported)) (offer_by id (nows reported))) reported)
    reported (befores ms)
    (befores-each (with_update id (offer_by id (befores reported)) (offer_by id (nows reported))) reported
    ∙ befores-reported prompt id heard ms)
    (befores-reported prompt id heard ms)
