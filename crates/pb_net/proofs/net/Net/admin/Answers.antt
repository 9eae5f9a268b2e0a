use Rattle.std.proofs.Common.{◌≡◌, true, refl, sym, ap, subst}
use Rattle.std.proofs.lemmas.Result.{err_from_is_err_and}
use Rattle.pb_lan.specs.Ports.{is_provider, port_at}
use Rattle.pb_lan.specs.declared.event.Event.TheVariants.{Admin}
use Rattle.pb_relay.specs.Standing.{BridgeView}
use Rattle.pb_net.specs.Answers.{NetView}
use Rattle.pb_net.proofs.DueLemmas.{due_within}
use Rattle.pb_net.proofs.KnownSpots.{BridgeAt, bridge_at}
use Rattle.pb_net.proofs.Done.{bridge_kept, admin_done, answers_fault, answers_done}
use Rattle.pb_net.proofs.net.Net.admin.Goals as goal
use Rattle.pb_net.proofs.net.Net.admin.Goals.{After-index_mut}

-- the bridge at the spot, and that the port leads to a bridge
at : (c : After-index_mut) → BridgeAt c.self.inside c.args.bridge c.args.port c.in-Some.spot c.index_mut.result.now
at c = bridge_at c.self.inside c.self.invariant c.self.view_is c.in-Some.ensures.some c.index_mut.ensures.value

named : (c : After-index_mut) → is_provider (port_at c.self.inside.plan c.args.bridge c.args.port) ≡ true
named c = subst (λ (v : NetView). is_provider (port_at v.plan c.args.bridge c.args.port) ≡ true)
    (sym c.self.view_is) c.in-Some.ensures.used

pub returns-in_err-admin : goal.returns-in_err-admin
returns-in_err-admin c =
    let h = (goal.at.returns-in_err-admin c).After-index_mut in
    let e = c.in_err-admin.ensures in
    answers_fault (Admin c.args.bridge c.args.port c.args.up) c.in_err-admin.field-0.0 (at h) c.self.view_is
    (bridge_kept c.admin.new.self (at h) (ap (λ (v : BridgeView). v.steps) e.err)) (named h) refl refl e.limit
    (err_from_is_err_and _ c.from_residual.ensures.1)

pub invariant_of-self-2 : goal.invariant_of-self-2
invariant_of-self-2 c =
    let h = (goal.at.invariant_of-self-2 c).After-index_mut in
    (admin_done c.args.up c.admin.new.self (at h) c.in_ok-admin.ensures.ok).0

pub returns : goal.returns
returns c =
    let h = (goal.at.returns c).After-index_mut in
    let due = due_within (at h) (Admin c.args.bridge c.args.port c.args.up) (named h) refl refl
    (λ m. let z = c.in_ok-admin.ensures.limit.1 m in cc) in
    answers_done c.self.inside (Admin c.args.bridge c.args.port c.args.up) c.self.view_is due
    (admin_done c.args.up c.admin.new.self (at h) c.in_ok-admin.ensures.ok).1
