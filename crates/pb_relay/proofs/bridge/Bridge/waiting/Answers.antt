use Rattle.std.proofs.Common.{rules, ◌<◌, ◌^◌, length, arith, ap, ◌∙◌}
use Rattle.pb_lan.specs.Queues.{waiting, capacity_of}
use Rattle.pb_relay.specs.Backlogs.{at_place}
use Rattle.pb_relay.specs.Classes.{number_in}
use Rattle.pb_relay.specs.Standing.{BridgeView}
use Rattle.pb_relay.proofs.Keeping.{used_there}
use Rattle.pb_relay.proofs.GrowthLemmas.{few_wait}
use Rattle.pb_relay.proofs.StandingLemmas.{number_at, capacity-small}
use Rattle.pb_relay.proofs.bridge.Bridge.waiting.Goals as goal

pub index_of-requires : goal.index_of-requires
index_of-requires c = (used_there c.self.inside c.args.port c.self.invariant c.self.view_is c.requires).0

pub waiting-requires : goal.waiting-requires
waiting-requires c =
    let l = used_there c.self.inside c.args.port c.self.invariant c.self.view_is c.requires in
    omega (arith, l.0, l.1, c.index_of.ensures, c.self.invariant.1.count)

pub overflow_cast-result : goal.overflow_cast-result
overflow_cast-result c =
    let l = used_there c.self.inside c.args.port c.self.invariant c.self.view_is c.requires in
    let n = number_at _ _ _ _ _ _ _ c.args.port c.self.invariant.1 l in
    let small : c.waiting.result < 2 ^ 16 =
    omega (
      arith,
      n,
      c.waiting.ensures ∙ ap (λ k. number_in (at_place c.self.inside.forwarding.backlog k)) c.index_of.ensures,
      few_wait c.self.inside.plan.queues (capacity_of c.self.inside.plan c.self.inside.number)
          (waiting c.self.inside.plan c.self.inside.number c.args.port c.self.inside.steps.steps)
          (c.self.invariant.1.classes c.args.port) (c.self.invariant.1.within c.args.port)
          (capacity-small c.self.inside.plan c.self.inside.number c.self.invariant.0.sound),
    ) in
    search rules

pub returns : goal.returns
returns c =
    let l = used_there c.self.inside c.args.port c.self.invariant c.self.view_is c.requires in
    c.waiting.ensures ∙ ap (λ k. number_in (at_place c.self.inside.forwarding.backlog k)) c.index_of.ensures
    ∙ number_at _ _ _ _ _ _ _ c.args.port c.self.invariant.1 l
    ∙ ap (λ (v : BridgeView). length (waiting v.plan v.number c.args.port v.steps)) c.self.view_is
