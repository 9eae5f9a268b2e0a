use Rattle.std.proofs.Common.{◌≡◌, arith, sym, ap, subst, ◌∙◌, refl}
use Rattle.pb_lan.specs.BridgeLists.{Fits}
use Rattle.pb_lan.specs.Ports.{port_at, is_provider}
use Rattle.pb_lan.specs.Rules.Cause.{Sets}
use Rattle.pb_lan.specs.declared.plan.Spanning.TheVariants.{Fixed, Rstp}
use Rattle.pb_lan.specs.declared.step.Step.TheVariants.{Admin}
use Rattle.pb_relay.specs.Protocol.{spanning_tree}
use Rattle.pb_relay.specs.Standing.{BridgeView}
use Rattle.pb_relay.proofs.FollowLemmas.{of_ports, followed_names, after_followed}
use Rattle.pb_relay.proofs.CauseLemmas.{is_fixed}
use Rattle.pb_relay.proofs.Keeping.{seen}
use Rattle.pb_relay.proofs.bridge.Bridge.set_tree.Goals as goal

pub unreachable-requires : goal.unreachable-requires
unreachable-requires c =
    let s = c.self.inside in
    let fixed = is_fixed s.plan s.number s.steps.steps s.rstp s.address.0 (Sets c.args.port c.args.up)
    c.self.invariant.4 (sym c.in_ok-change.ensures.change ∙ c.in_default.is) in
    let rstp = ap (λ (v : BridgeView). v.plan.spanning) c.self.view_is ∙ c.requires.rstp in
    let e : Fixed ≡ Rstp = sym fixed ∙ rstp in
    cc

pub follow-moved-requires-clause-change : goal.follow-moved-requires-clause-change
follow-moved-requires-clause-change c =
    of_ports c.self.inside (Sets c.args.port c.args.up) c.in-Some.change c.self.invariant
    (sym c.in_ok-change.ensures.change ∙ c.in-Some.is)

-- the step may come there
fits : (c : goal.After-append) → Fits spanning_tree c.self.inside.plan c.self.inside.number c.self.inside.steps.steps
    (Admin c.args.port c.args.up c.follow-moved.result)
fits c = (
  ap (λ (v : BridgeView). is_provider (port_at v.plan v.number c.args.port)) c.self.view_is ∙ c.requires.provider,
  followed_names c.self.inside (Sets c.args.port c.args.up) c.in-Some.change c.follow-moved.result
      c.self.inside.forwarding.table c.follow-moved.new.forwarding c.self.invariant
      (sym c.in_ok-change.ensures.change ∙ c.in-Some.is) c.follow-moved.ensures,
)

pub invariant_of-self-2 : goal.invariant_of-self-2
invariant_of-self-2 c =
    let s = c.self.inside in
    after_followed s (Sets c.args.port c.args.up) c.in-Some.change c.follow-moved.result s.forwarding.table
    c.follow-moved.new.forwarding s.clock c.admin.new.rstp c.append.new.steps
    (Admin c.args.port c.args.up c.follow-moved.result) c.self.invariant c.self.view_is c.requires.reserved
    (sym c.in_ok-change.ensures.change ∙ c.in-Some.is) c.follow-moved.ensures c.in_ok-change.ensures.ok
    c.append.ensures.steps refl (fits c) refl (λ _. refl) (λ _ _. refl) refl (omega arith) c.self.invariant.3
    c.self.invariant.1.stations

pub returns-clause-ok : goal.returns-clause-ok
returns-clause-ok c = (
  c.follow-moved.result,
  seen c.self.inside c.append.new.steps (Admin c.args.port c.args.up c.follow-moved.result) c.append.ensures.steps
      c.self.view_is,
  subst (λ (v : BridgeView). Fits spanning_tree v.plan v.number v.steps
      (Admin c.args.port c.args.up c.follow-moved.result)) c.self.view_is (fits c),
)
