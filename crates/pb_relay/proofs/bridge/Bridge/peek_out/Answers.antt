use Rattle.std.proofs.Common.{arith, ap, ◌∙◌}
use Rattle.pb_lan.specs.Queues.{waiting, next_out}
use Rattle.pb_relay.specs.Backlogs.{at_place}
use Rattle.pb_relay.specs.Classes.{first_out}
use Rattle.pb_relay.specs.Standing.{BridgeView}
use Rattle.pb_relay.proofs.Keeping.{used_there}
use Rattle.pb_relay.proofs.StandingLemmas.{next_at}
use Rattle.pb_relay.proofs.bridge.Bridge.peek_out.Goals as goal

pub index_of-requires : goal.index_of-requires
index_of-requires c = (used_there c.self.inside c.args.port c.self.invariant c.self.view_is c.requires).0

pub first-requires : goal.first-requires
first-requires c =
    let l = used_there c.self.inside c.args.port c.self.invariant c.self.view_is c.requires in
    omega (arith, l.0, l.1, c.index_of.ensures, c.self.invariant.1.count)

pub returns : goal.returns
returns c =
    let l = used_there c.self.inside c.args.port c.self.invariant c.self.view_is c.requires in
    c.first.ensures ∙ ap (λ k. first_out (at_place c.self.inside.forwarding.backlog k)) c.index_of.ensures
    ∙ next_at _ _ _ _ _ _ _ c.args.port c.self.invariant.1 l
    ∙ ap (λ (v : BridgeView). next_out (waiting v.plan v.number c.args.port v.steps)) c.self.view_is
