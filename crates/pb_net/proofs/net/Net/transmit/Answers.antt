use Rattle.std.proofs.Common.{refl, sym, ap₂, ◌∙◌}
use Rattle.std.proofs.lemmas.Result.{err_from_is_err_and}
use Rattle.std.proofs.lemmas.Bool.{or_parts}
use Rattle.pb_lan.specs.Ports.{is_used, port_at}
use Rattle.pb_lan.specs.declared.event.Event.TheVariants.{Transmit}
use Rattle.pb_lan.specs.declared.plan.Plan.{Plan}
use Rattle.pb_net.specs.Answers.{IsDue}
use Rattle.pb_net.proofs.KnownSpots.{BridgeAt, bridge_at, outbox_kept, shown}
use Rattle.pb_net.proofs.DueLemmas.{due_here, idle_transmit_is, bridge_is}
use Rattle.pb_net.proofs.Done.{some_there, bridge_failed, transmit_done, answers_fault, answers_done}
use Rattle.pb_net.proofs.net.Net.transmit.Goals as goal
use Rattle.pb_net.proofs.net.Net.transmit.Goals.{After-index_mut}

-- the bridge at the spot, and that the event is due
at : (c : After-index_mut) → BridgeAt c.self.inside c.args.bridge c.args.port c.in-Some.spot c.index_mut-at.result.now
at c = bridge_at c.self.inside c.self.invariant c.self.view_is (rw c.in-Some.is at c.in_ok-spot.ensures.spot)
    c.index_mut-at.ensures.value

due : (c : After-index_mut) → IsDue (shown c.self.inside) (Transmit c.args.bridge c.args.port)
due c = due_here c.self.inside c.self.view_is (rw c.in-Some.is at c.in_ok-spot.ensures.due)

pub transmit_at-requires-clause-used : goal.transmit_at-requires-clause-used
transmit_at-requires-clause-used c = let h = (goal.at.transmit_at-requires-clause-used c).After-index_mut in
    let is = bridge_is (at h) in ap₂ (λ (p : Plan) n. is_used (port_at p n c.args.port)) is.0 is.1 ∙ (due h).named

pub transmit_at-requires-clause-some : goal.transmit_at-requires-clause-some
transmit_at-requires-clause-some c = let h = (goal.at.transmit_at-requires-clause-some c).After-index_mut in
    some_there _ (or_parts _ _ (sym (idle_transmit_is (at h) c.index_mut.ensures.value) ∙ (due h).busy)).0

pub invariant_of-self : goal.invariant_of-self
invariant_of-self c =
    let h = at (goal.at.invariant_of-self c).After-index_mut in
    let e = c.in_err-transmit_at.ensures in
    rw (outbox_kept h c.transmit_at.new.outbox c.index_mut.ensures.value e.err.1)
    (bridge_failed c.transmit_at.new.bridge h e.plan e.number e.kept e.err.0).0

pub returns-in_err-transmit_at : goal.returns-in_err-transmit_at
returns-in_err-transmit_at c =
    let h = (goal.at.returns-in_err-transmit_at c).After-index_mut in
    let e = c.in_err-transmit_at.ensures in
    answers_fault (Transmit c.args.bridge c.args.port) c.in_err-transmit_at.field-0.0 (at h) c.self.view_is
    (bridge_failed c.transmit_at.new.bridge (at h) e.plan e.number e.kept e.err.0).1 (due h).named (due h).busy refl
    e.limit (err_from_is_err_and _ c.from_residual-in_err-transmit_at.ensures.1)

pub invariant_of-self-2 : goal.invariant_of-self-2
invariant_of-self-2 c =
    let h = (goal.at.invariant_of-self-2 c).After-index_mut in
    let e = c.in_ok-transmit_at.ensures in
    (transmit_done c.transmit_at.new.bridge c.transmit_at.new.outbox (at h) c.index_mut.ensures.value e.plan e.number
    e.kept e.ok).0

pub returns : goal.returns
returns c =
    let h = (goal.at.returns c).After-index_mut in
    let e = c.in_ok-transmit_at.ensures in
    answers_done c.self.inside (Transmit c.args.bridge c.args.port) c.self.view_is (due h)
    (transmit_done c.transmit_at.new.bridge c.transmit_at.new.outbox (at h) c.index_mut.ensures.value e.plan e.number
    e.kept e.ok).1
