use Rattle.std.proofs.Common.{◌≡◌, sym, ap, subst, ◌∙◌, refl, ◌+◌, ℕ, rules}
use Rattle.pb_lan.specs.BridgeLists.{Fits}
use Rattle.pb_lan.specs.Choice.{now_after}
use Rattle.pb_lan.specs.Rules.Cause.{Ticks}
use Rattle.pb_lan.specs.declared.plan.Spanning.TheVariants.{Fixed, Rstp}
use Rattle.pb_lan.specs.declared.step.Step.TheVariants.{Tick}
use Rattle.pb_relay.specs.Protocol.{spanning_tree}
use Rattle.pb_relay.specs.Standing.{BridgeView, with_step}
use Rattle.pb_history.specs.StepLists.{StepsView, with_step as steps_with}
use Rattle.pb_relay.proofs.FollowLemmas.{of_ports, followed_names, after_followed, expired_later, ticked_fits}
use Rattle.pb_relay.proofs.CauseLemmas.{is_fixed}
use Rattle.pb_relay.proofs.Keeping.{clock_small, shown}
use Rattle.pb_relay.proofs.bridge.Bridge.advance_tree.Goals as goal

pub unreachable-requires : goal.unreachable-requires
unreachable-requires c =
    let s = c.self.inside in
    let fixed = is_fixed s.plan s.number s.steps.steps s.rstp s.address.0 (Ticks) c.self.invariant.4
    (sym c.in_ok-change.ensures.change ∙ c.in_default.is) in
    let rstp = ap (λ (v : BridgeView). v.plan.spanning) c.self.view_is ∙ c.requires.rstp in
    let e : Fixed ≡ Rstp = sym fixed ∙ rstp in
    cc

pub overflow_add-self : goal.overflow_add-self
overflow_add-self c =
    let small = clock_small c.self.inside c.self.invariant c.self.view_is c.requires.reserved in search rules

pub follow-moved-requires-clause-change : goal.follow-moved-requires-clause-change
follow-moved-requires-clause-change c =
    of_ports c.self.inside Ticks c.in-Some.change c.self.invariant (sym c.in_ok-change.ensures.change ∙ c.in-Some.is)

-- the step may come there
fits : (c : goal.After-append) → Fits spanning_tree c.self.inside.plan c.self.inside.number c.self.inside.steps.steps
    (Tick (c.self.inside.clock + 1) c.follow-moved.result)
fits c =
    ticked_fits c.self.inside.plan c.self.inside.number c.self.inside.clock c.self.inside.steps.steps
    c.follow-moved.result c.self.invariant.1.clock
    (followed_names c.self.inside Ticks c.in-Some.change c.follow-moved.result c.expire.new.self
    c.follow-moved.new.forwarding c.self.invariant (sym c.in_ok-change.ensures.change ∙ c.in-Some.is)
    c.follow-moved.ensures)

pub invariant_of-self-2 : goal.invariant_of-self-2
invariant_of-self-2 c =
    let s = c.self.inside in
    let later = expired_later s c.expire.new.self c.self.invariant c.expire.ensures in
    after_followed s Ticks c.in-Some.change c.follow-moved.result c.expire.new.self c.follow-moved.new.forwarding
    (s.clock + 1) c.tick.new.rstp c.append.new.steps (Tick (s.clock + 1) c.follow-moved.result) c.self.invariant
    c.self.view_is c.requires.reserved (sym c.in_ok-change.ensures.change ∙ c.in-Some.is) c.follow-moved.ensures
    c.in_ok-change.ensures.ok c.append.ensures.steps refl (fits c) refl (λ _. refl) (λ _ _. refl) refl refl later.0
    later.1

pub returns-clause-ok : goal.returns-clause-ok
returns-clause-ok c =
    let s = c.self.inside in
    let m = c.follow-moved.result in (
      m,
      ap (λ (z : StepsView). shown (record s { steps = z }))
          (c.append.ensures.steps ∙ ap (λ (n : ℕ). steps_with s.steps (Tick (n + 1) m)) c.self.invariant.1.clock)
          ∙ ap (λ (v : BridgeView). with_step v (Tick (now_after v.steps + 1) m)) c.self.view_is,
      subst (λ (v : BridgeView). Fits spanning_tree v.plan v.number v.steps (Tick (now_after v.steps + 1) m))
          c.self.view_is
          (subst (λ (n : ℕ). Fits spanning_tree s.plan s.number s.steps.steps (Tick (n + 1) m))
          c.self.invariant.1.clock (fits c)),
    )
