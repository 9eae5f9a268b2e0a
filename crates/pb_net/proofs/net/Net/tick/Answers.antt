use Rattle.std.proofs.Common.{◌*◌, refl, ap, arith}
use Rattle.std.proofs.lemmas.Result.{err_from_is_err_and}
use Rattle.pb_lan.specs.declared.event.Event.TheVariants.{Tick}
use Rattle.pb_relay.specs.Standing.{BridgeView}
use Rattle.pb_net.proofs.DueLemmas.{due_within, named_bridge}
use Rattle.pb_net.proofs.KnownSpots.{BridgeAt, bridge_at}
use Rattle.pb_net.proofs.Done.{bridge_kept, tick_done, answers_fault, answers_done}
use Rattle.pb_net.proofs.SpotLemmas.{first_spot}
use Rattle.pb_net.proofs.net.Net.tick.Goals as goal
use Rattle.pb_net.proofs.net.Net.tick.Goals.{After-index_mut}

-- the bridge at the spot of its first port
at : (c : After-index_mut) → BridgeAt c.self.inside c.args.bridge 1
    (record { place = c.in-Some.place; slot = 16 * c.in-Some.place }) c.index_mut.result.now
at c =
    let s = c.self.inside in
    let place = c.in-Some.ensures.some in
    bridge_at s c.self.invariant refl (first_spot s.plan c.args.bridge c.in-Some.place place.0
    (omega (arith, place.1, c.self.invariant.1.bridge_count))) c.index_mut.ensures.value

pub returns-in_err-tick : goal.returns-in_err-tick
returns-in_err-tick c =
    let h = at (goal.at.returns-in_err-tick c).After-index_mut in
    let e = c.in_err-tick.ensures in
    answers_fault (Tick c.args.bridge) c.in_err-tick.field-0.0 h c.self.view_is
    (bridge_kept c.tick.new.self h (ap (λ (v : BridgeView). v.steps) e.err)) (named_bridge h) refl refl e.limit
    (err_from_is_err_and _ c.from_residual.ensures.1)

pub invariant_of-self-2 : goal.invariant_of-self-2
invariant_of-self-2 c =
    (tick_done c.tick.new.self (at (goal.at.invariant_of-self-2 c).After-index_mut) c.in_ok-tick.ensures.ok).0

pub returns : goal.returns
returns c =
    let h = at (goal.at.returns c).After-index_mut in
    let due = due_within h (Tick c.args.bridge) (named_bridge h) refl refl
    (λ m. let z = c.in_ok-tick.ensures.limit.1 m in cc) in
    answers_done c.self.inside (Tick c.args.bridge) c.self.view_is due
    (tick_done c.tick.new.self h c.in_ok-tick.ensures.ok).1
