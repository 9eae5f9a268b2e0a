use Rattle.std.proofs.Common.{sym, ◌∙◌}
use Rattle.std.proofs.lemmas.Result.{err_from_is_err_and}
use Rattle.std.proofs.lemmas.Bool.{or_parts}
use Rattle.pb_lan.specs.declared.event.Event.TheVariants.{Feed}
use Rattle.pb_net.specs.Answers.{IsDue}
use Rattle.pb_net.proofs.KnownSpots.{CustomerAt, customer_at, inbox_kept, shown}
use Rattle.pb_net.proofs.DueLemmas.{due_here, idle_feed_is}
use Rattle.pb_net.proofs.Done.{customer_failed, feed_done, answers_memory, answers_done}
use Rattle.pb_net.proofs.net.Net.feed.Goals as goal
use Rattle.pb_net.proofs.net.Net.feed.Goals.{After-index_mut-2}

-- the customer port at the spot, and that the event is due
at : (c : After-index_mut-2) → CustomerAt c.self.inside c.args.port c.in-Some.spot c.index_mut.result.now
at c = customer_at c.self.inside c.self.invariant c.self.view_is (rw c.in-Some.is at c.in_ok-spot.ensures.spot)
    c.index_mut.ensures.value

due : (c : After-index_mut-2) → IsDue (shown c.self.inside) (Feed c.args.port)
due c = due_here c.self.inside c.self.view_is (rw c.in-Some.is at c.in_ok-spot.ensures.due)

pub feed_at-requires : goal.feed_at-requires
feed_at-requires c = let h = (goal.at.feed_at-requires c).After-index_mut-2 in
    (or_parts _ _ (sym (idle_feed_is (at h) c.index_mut-2.ensures.value) ∙ (due h).busy)).0

pub invariant_of-self : goal.invariant_of-self
invariant_of-self c =
    let h = at (goal.at.invariant_of-self c).After-index_mut-2 in
    let e = c.in_err-feed_at.ensures in
    rw (inbox_kept h c.feed_at.new.inbox c.index_mut-2.ensures.value e.err_inbox)
    (customer_failed c.feed_at.new.place h e.number e.kept e.err).0

pub returns-in_err-feed_at : goal.returns-in_err-feed_at
returns-in_err-feed_at c =
    let h = (goal.at.returns-in_err-feed_at c).After-index_mut-2 in
    let e = c.in_err-feed_at.ensures in
    answers_memory c.self.inside (Feed c.args.port) c.self.view_is (due h)
    (customer_failed c.feed_at.new.place (at h) e.number e.kept e.err).1
    (err_from_is_err_and _ c.from_residual-in_err-feed_at.ensures.1)

pub invariant_of-self-2 : goal.invariant_of-self-2
invariant_of-self-2 c =
    let h = (goal.at.invariant_of-self-2 c).After-index_mut-2 in
    let e = c.in_ok-feed_at.ensures in
    (feed_done c.feed_at.new.place c.feed_at.new.inbox (at h) c.index_mut-2.ensures.value e.number e.kept e.lawful
    e.ok).0

pub returns : goal.returns
returns c =
    let h = (goal.at.returns c).After-index_mut-2 in
    let e = c.in_ok-feed_at.ensures in
    answers_done c.self.inside (Feed c.args.port) c.self.view_is (due h)
    (feed_done c.feed_at.new.place c.feed_at.new.inbox (at h)
    c.index_mut-2.ensures.value e.number e.kept e.lawful e.ok).1
