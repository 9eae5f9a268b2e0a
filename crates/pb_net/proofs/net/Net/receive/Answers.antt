use Rattle.std.proofs.Common.{refl, sym, ap₂, ◌∙◌}
use Rattle.std.proofs.lemmas.Result.{err_from_is_err_and}
use Rattle.pb_lan.specs.Ports.{is_used, port_at}
use Rattle.pb_lan.specs.declared.event.Event.TheVariants.{Receive}
use Rattle.pb_lan.specs.declared.plan.Plan.{Plan}
use Rattle.pb_net.specs.Answers.{IsDue}
use Rattle.pb_net.proofs.KnownSpots.{BridgeAt, bridge_at, inbox_kept, shown}
use Rattle.pb_net.proofs.DueLemmas.{due_here, idle_receive_is, bridge_is}
use Rattle.pb_net.proofs.Done.{some_there, bridge_failed, receive_done, answers_fault, answers_done}
use Rattle.pb_net.proofs.net.Net.receive.Goals as goal
use Rattle.pb_net.proofs.net.Net.receive.Goals.{After-index_mut}

-- the bridge at the spot, and that the event is due
at : (c : After-index_mut) → BridgeAt c.self.inside c.args.bridge c.args.port c.in-Some.spot c.index_mut-at.result.now
at c = bridge_at c.self.inside c.self.invariant c.self.view_is (rw c.in-Some.is at c.in_ok-spot.ensures.spot)
    c.index_mut-at.ensures.value

due : (c : After-index_mut) → IsDue (shown c.self.inside) (Receive c.args.bridge c.args.port)
due c = due_here c.self.inside c.self.view_is (rw c.in-Some.is at c.in_ok-spot.ensures.due)

pub receive_at-requires-clause-used : goal.receive_at-requires-clause-used
receive_at-requires-clause-used c = let h = (goal.at.receive_at-requires-clause-used c).After-index_mut in
    let is = bridge_is (at h) in ap₂ (λ (p : Plan) n. is_used (port_at p n c.args.port)) is.0 is.1 ∙ (due h).named

pub receive_at-requires-clause-some : goal.receive_at-requires-clause-some
receive_at-requires-clause-some c = let h = (goal.at.receive_at-requires-clause-some c).After-index_mut in
    some_there _ (sym (idle_receive_is (at h) c.index_mut.ensures.value) ∙ (due h).busy)

pub invariant_of-self : goal.invariant_of-self
invariant_of-self c =
    let h = at (goal.at.invariant_of-self c).After-index_mut in
    let e = c.in_err-receive_at.ensures in
    rw (inbox_kept h c.receive_at.new.inbox c.index_mut.ensures.value e.err.1)
    (bridge_failed c.receive_at.new.bridge h e.plan e.number e.kept e.err.0).0

pub returns-in_err-receive_at : goal.returns-in_err-receive_at
returns-in_err-receive_at c =
    let h = (goal.at.returns-in_err-receive_at c).After-index_mut in
    let e = c.in_err-receive_at.ensures in
    answers_fault (Receive c.args.bridge c.args.port) c.in_err-receive_at.field-0.0 (at h) c.self.view_is
    (bridge_failed c.receive_at.new.bridge (at h) e.plan e.number e.kept e.err.0).1 (due h).named (due h).busy refl
    e.limit (err_from_is_err_and _ c.from_residual-in_err-receive_at.ensures.1)

pub invariant_of-self-2 : goal.invariant_of-self-2
invariant_of-self-2 c =
    let h = (goal.at.invariant_of-self-2 c).After-index_mut in
    let e = c.in_ok-receive_at.ensures in
    (receive_done c.receive_at.new.bridge c.receive_at.new.inbox (at h) c.index_mut.ensures.value e.plan e.number
    e.kept e.ok).0

pub returns : goal.returns
returns c =
    let h = (goal.at.returns c).After-index_mut in
    let e = c.in_ok-receive_at.ensures in
    answers_done c.self.inside (Receive c.args.bridge c.args.port) c.self.view_is (due h)
    (receive_done c.receive_at.new.bridge c.receive_at.new.inbox (at h) c.index_mut.ensures.value e.plan e.number
    e.kept e.ok).1
