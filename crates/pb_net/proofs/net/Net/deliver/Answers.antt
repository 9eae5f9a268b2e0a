use Rattle.std.proofs.Common.{sym, ◌∙◌}
use Rattle.std.proofs.lemmas.Result.{err_from_is_err_and}
use Rattle.pb_lan.specs.declared.event.Event.TheVariants.{Deliver}
use Rattle.pb_net.specs.Answers.{IsDue}
use Rattle.pb_net.proofs.KnownSpots.{CustomerAt, customer_at, outbox_kept, shown}
use Rattle.pb_net.proofs.DueLemmas.{due_here, idle_deliver_is}
use Rattle.pb_net.proofs.Done.{some_there, customer_failed, deliver_done, answers_memory, answers_done}
use Rattle.pb_net.proofs.net.Net.deliver.Goals as goal
use Rattle.pb_net.proofs.net.Net.deliver.Goals.{After-index_mut-2}

-- the customer port at the spot, and that the event is due
at : (c : After-index_mut-2) → CustomerAt c.self.inside c.args.port c.in-Some.spot c.index_mut.result.now
at c = customer_at c.self.inside c.self.invariant c.self.view_is (rw c.in-Some.is at c.in_ok-spot.ensures.spot)
    c.index_mut.ensures.value

due : (c : After-index_mut-2) → IsDue (shown c.self.inside) (Deliver c.args.port)
due c = due_here c.self.inside c.self.view_is (rw c.in-Some.is at c.in_ok-spot.ensures.due)

pub deliver_at-requires : goal.deliver_at-requires
deliver_at-requires c = let h = (goal.at.deliver_at-requires c).After-index_mut-2 in
    some_there _ (sym (idle_deliver_is (at h) c.index_mut-2.ensures.value) ∙ (due h).busy)

pub invariant_of-self : goal.invariant_of-self
invariant_of-self c =
    let h = at (goal.at.invariant_of-self c).After-index_mut-2 in
    let e = c.in_err-deliver_at.ensures in
    rw (outbox_kept h c.deliver_at.new.outbox c.index_mut-2.ensures.value e.err_outbox)
    (customer_failed c.deliver_at.new.place h e.number e.kept e.err).0

pub returns-in_err-deliver_at : goal.returns-in_err-deliver_at
returns-in_err-deliver_at c =
    let h = (goal.at.returns-in_err-deliver_at c).After-index_mut-2 in
    let e = c.in_err-deliver_at.ensures in
    answers_memory c.self.inside (Deliver c.args.port) c.self.view_is (due h)
    (customer_failed c.deliver_at.new.place (at h) e.number e.kept e.err).1
    (err_from_is_err_and _ c.from_residual-in_err-deliver_at.ensures.1)

pub invariant_of-self-2 : goal.invariant_of-self-2
invariant_of-self-2 c =
    let h = (goal.at.invariant_of-self-2 c).After-index_mut-2 in
    let e = c.in_ok-deliver_at.ensures in
    (deliver_done c.deliver_at.new.place c.deliver_at.new.outbox (at h) c.index_mut-2.ensures.value e.number e.kept
    e.lawful e.ok).0

pub returns : goal.returns
returns c =
    let h = (goal.at.returns c).After-index_mut-2 in
    let e = c.in_ok-deliver_at.ensures in
    answers_done c.self.inside (Deliver c.args.port) c.self.view_is (due h)
    (deliver_done c.deliver_at.new.place c.deliver_at.new.outbox (at h)
    c.index_mut-2.ensures.value e.number e.kept e.lawful e.ok).1
