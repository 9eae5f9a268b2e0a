use Rattle.std.proofs.Common.{sym, ◌∙◌}
use Rattle.std.proofs.lemmas.Bool.{not-false}
use Rattle.std.proofs.lemmas.Result.{err_from_is_err_and}
use Rattle.pb_lan.specs.declared.event.Event.TheVariants.{Poll}
use Rattle.pb_link.specs.Hands.{arrival}
use Rattle.pb_net.specs.Answers.{IsDue}
use Rattle.pb_net.proofs.KnownSpots.{CustomerAt, customer_at, shown}
use Rattle.pb_net.proofs.DueLemmas.{due_here, idle_poll_is}
use Rattle.pb_net.proofs.Done.{with_frame, customer_failed, poll_done, answers_memory, answers_done}
use Rattle.pb_net.proofs.net.Net.poll.Goals as goal
use Rattle.pb_net.proofs.net.Net.poll.Goals.{After-index_mut}

-- the customer port at the spot, and that the event is due
at : (c : After-index_mut) → CustomerAt c.self.inside c.args.port c.in-Some.spot c.index_mut.result.now
at c = customer_at c.self.inside c.self.invariant c.self.view_is (rw c.in-Some.is at c.in_ok-spot.ensures.spot)
    c.index_mut.ensures.value

due : (c : After-index_mut) → IsDue (shown c.self.inside) (Poll c.args.port c.args.frame)
due c = due_here c.self.inside c.self.view_is
    (with_frame c.args.self.now c.args.port c.args.frame (rw c.in-Some.is at c.in_ok-spot.ensures.due))

pub poll_at-requires : goal.poll_at-requires
poll_at-requires c = let h = (goal.at.poll_at-requires c).After-index_mut in
    not-false _ (sym (idle_poll_is (at h) c.args.frame) ∙ (due h).busy)

pub invariant_of-self : goal.invariant_of-self
invariant_of-self c =
    let h = at (goal.at.invariant_of-self c).After-index_mut in
    let e = c.in_err-poll_at.ensures in
    (customer_failed c.poll_at.new.place h e.number e.kept e.err).0

pub returns-in_err-poll_at : goal.returns-in_err-poll_at
returns-in_err-poll_at c =
    let h = (goal.at.returns-in_err-poll_at c).After-index_mut in
    let e = c.in_err-poll_at.ensures in
    answers_memory c.self.inside (Poll c.args.port c.args.frame) c.self.view_is (due h)
    (customer_failed c.poll_at.new.place (at h) e.number e.kept e.err).1
    (err_from_is_err_and _ c.from_residual-in_err-poll_at.ensures.1)

pub invariant_of-self-2 : goal.invariant_of-self-2
invariant_of-self-2 c =
    let h = (goal.at.invariant_of-self-2 c).After-index_mut in
    let e = c.in_ok-poll_at.ensures in
    (poll_done c.poll_at.new.place (arrival c.index_mut.result.now c.args.frame)
    (at h) e.number e.kept e.lawful e.ok).0

pub returns : goal.returns
returns c =
    let h = (goal.at.returns c).After-index_mut in
    let e = c.in_ok-poll_at.ensures in
    answers_done c.self.inside (Poll c.args.port c.args.frame) c.self.view_is (due h)
    (poll_done c.poll_at.new.place (arrival c.index_mut.result.now c.args.frame)
    (at h) e.number e.kept e.lawful e.ok).1
