use Rattle.std.proofs.Common.{sym, ◌∙◌}
use Rattle.std.proofs.lemmas.Bool.{not-false, or_parts}
use Rattle.std.proofs.lemmas.Result.{err_from_is_err_and}
use Rattle.pb_lan.specs.declared.event.Event.TheVariants.{Take}
use Rattle.pb_net.specs.Answers.{IsDue}
use Rattle.pb_net.proofs.KnownSpots.{StartAt, start_at, outbox_kept, shown}
use Rattle.pb_net.proofs.DueLemmas.{due_here, idle_take_is}
use Rattle.pb_net.proofs.Done.{some_there, lane_failed, take_done, answers_memory, answers_done}
use Rattle.pb_net.proofs.net.Net.take.Goals as goal
use Rattle.pb_net.proofs.net.Net.take.Goals.{After-index_mut-2}

-- the lane at the spot, and that the event is due
at : (c : After-index_mut-2) → StartAt c.self.inside c.args.lane c.in-Some.spot c.index_mut.result.now
at c = start_at c.self.inside c.self.invariant c.self.view_is (rw c.in-Some.is at c.in_ok-spot.ensures.spot)
    c.index_mut.ensures.value

due : (c : After-index_mut-2) → IsDue (shown c.self.inside) (Take c.args.lane)
due c = due_here c.self.inside c.self.view_is (rw c.in-Some.is at c.in_ok-spot.ensures.due)

pub take_at-requires-clause-empty : goal.take_at-requires-clause-empty
take_at-requires-clause-empty c = let h = (goal.at.take_at-requires-clause-empty c).After-index_mut-2 in
    not-false _ (or_parts _ _ (sym (idle_take_is (at h) c.index_mut-2.ensures.value) ∙ (due h).busy)).0

pub take_at-requires-clause-some : goal.take_at-requires-clause-some
take_at-requires-clause-some c = let h = (goal.at.take_at-requires-clause-some c).After-index_mut-2 in
    some_there _ (or_parts _ _ (sym (idle_take_is (at h) c.index_mut-2.ensures.value) ∙ (due h).busy)).1

pub invariant_of-self : goal.invariant_of-self
invariant_of-self c =
    let h = at (goal.at.invariant_of-self c).After-index_mut-2 in
    let e = c.in_err-take_at.ensures in
    rw (outbox_kept h c.take_at.new.outbox c.index_mut-2.ensures.value e.err_outbox)
    (lane_failed c.take_at.new.lane h e.losses e.kept e.err).0

pub returns-in_err-take_at : goal.returns-in_err-take_at
returns-in_err-take_at c =
    let h = (goal.at.returns-in_err-take_at c).After-index_mut-2 in
    let e = c.in_err-take_at.ensures in
    answers_memory c.self.inside (Take c.args.lane) c.self.view_is (due h)
    (lane_failed c.take_at.new.lane (at h) e.losses e.kept e.err).1
    (err_from_is_err_and _ c.from_residual-in_err-take_at.ensures.1)

pub invariant_of-self-2 : goal.invariant_of-self-2
invariant_of-self-2 c =
    let h = (goal.at.invariant_of-self-2 c).After-index_mut-2 in
    let e = c.in_ok-take_at.ensures in
    (take_done c.take_at.new.lane c.take_at.new.outbox (at h) c.index_mut-2.ensures.value e.losses e.kept e.lawful
    e.ok).0

pub returns : goal.returns
returns c =
    let h = (goal.at.returns c).After-index_mut-2 in
    let e = c.in_ok-take_at.ensures in
    answers_done c.self.inside (Take c.args.lane) c.self.view_is (due h)
    (take_done c.take_at.new.lane c.take_at.new.outbox (at h)
    c.index_mut-2.ensures.value e.losses e.kept e.lawful e.ok).1
