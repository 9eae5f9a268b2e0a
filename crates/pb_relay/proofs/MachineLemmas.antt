-- The ports of a bridge's spanning tree.
use Rattle.std.proofs.Common.{◌≡◌, ℕ, ◌+◌, ◌<◌, List, [], ◌∷◌, ◌++◌, take, get_or, sym, ap}
use Rattle.std.proofs.Common.{◌∙◌, arith, append-nil}
use Rattle.std.proofs.lemmas.List.{take_more}
use Rattle.std.specs.List.{flat_map}
use Rattle.pb_lan.specs.Ports.{port_at, local_ports}
use Rattle.pb_lan.specs.declared.plan.Plan.{Plan}
use Rattle.pb_rstp.specs.Profile.{rstp_port}
use Rattle.pb_rstp.specs.declared.config.RstpPort.{RstpPort}
use Rattle.std.proofs.lemmas.Grind.{flat_map-append}
use Rattle.pb_relay.specs.Settled.{machines_in}
use Rattle.pb_rstp.specs.Tree.{AreMachines, PlannedAreMachines}
use Rattle.pb_lan.specs.declared.record.Record.{Record}
use Rattle.pb_lan.specs.Records.{steps_of}
use Rattle.pb_lan.specs.Plans.{IsSound}
use Rattle.pb_relay.proofs.VerdictLemmas.{get_up}

-- the machines of a record are the plan's, whatever their steps are
pub are_machines : (plan : Plan) (rec : Record) → IsSound plan → PlannedAreMachines
    → AreMachines plan (machines_in plan rec)
unfolding machines_in
are_machines plan rec sound planned = planned plan (steps_of rec.bridges) sound

-- one step of the loop: the ports of the spanning tree with one more local port
pub rstp_ports_more : (plan : Plan) (b r : ℕ) (ports port new : List RstpPort) → r < 16
    → ports ≡ flat_map (λ p. rstp_port p (port_at plan b p)) (take r local_ports)
    → port ≡ rstp_port (r + 1) (port_at plan b (r + 1)) → new ≡ ports ++ port
    → new ≡ flat_map (λ p. rstp_port p (port_at plan b p)) (take (r + 1) local_ports)
rstp_ports_more plan b r ports port new l before here after =
    let s : 1 + r ≡ r + 1 = omega arith in
    after ∙ ap (λ zs. zs ++ port) before
    ∙ ap (λ zs. flat_map (λ p. rstp_port p (port_at plan b p)) (take r local_ports) ++ zs)
    (here ∙ ap (λ p. rstp_port p (port_at plan b p)) (sym (get_up (λ p. p) 16 1 r 0 l ∙ s))
    ∙ sym (append-nil (rstp_port (get_or local_ports r 0) (port_at plan b (get_or local_ports r 0)))))
    ∙ sym (flat_map-append (λ p. rstp_port p (port_at plan b p)) (take r local_ports) (get_or local_ports r 0 ∷ []))
    ∙ ap (flat_map (λ p. rstp_port p (port_at plan b p))) (sym (take_more local_ports r 0 l))
