use Rattle.std.proofs.Common.{◌≡◌, arith, sym, ap, subst, ◌∙◌, None, Some, refl}
use Rattle.pb_lan.specs.BridgeLists.{ruling, Fits}
use Rattle.pb_lan.specs.Rules.Cause.{Hears}
use Rattle.pb_lan.specs.declared.step.Outcome.TheVariants.{Heard}
use Rattle.pb_lan.specs.declared.step.Step.TheVariants.{Receive}
use Rattle.pb_relay.specs.Machines.{change_next, machine_next}
use Rattle.pb_relay.specs.Protocol.{spanning_tree}
use Rattle.pb_relay.specs.Receptions.{HasTaken}
use Rattle.pb_relay.specs.Standing.{BridgeView}
use Rattle.pb_relay.proofs.FollowLemmas.{of_ports, followed_names, after_followed, heard_fits}
use Rattle.pb_relay.proofs.CauseLemmas.{is_fixed, stays_none}
use Rattle.pb_relay.proofs.Keeping.{taken}
use Rattle.pb_history.specs.StepLists.{with_step as steps_with, given_back}
use Rattle.pb_relay.proofs.bridge.Bridge.hear.Goals as goal

pub returns-in_default-hear : goal.returns-in_default-hear
returns-in_default-hear c =
    subst (λ (v : BridgeView). HasTaken v c.args.port c.args.item c.give_up-in_default-hear.result
    c.give_up-in_default-hear.new.self) c.self.view_is c.give_up-in_default-hear.ensures

pub invariant_of-self-in_default-heard : goal.invariant_of-self-in_default-heard
invariant_of-self-in_default-heard c =
    let s = c.self.inside in
    let none = sym c.in-Ok-hear.ensures.change ∙ c.in_default-heard.is in
    let same = c.in-Ok-hear.ensures.ok ∙ stays_none s.rstp (Hears c.args.port c.as_slice.result.now) none in (
      c.self.invariant.0,
      c.self.invariant.1,
      c.self.invariant.2,
      c.self.invariant.3,
      record { kept_machine = same ∙ c.self.invariant.4.kept_machine; kept_address = c.self.invariant.4.kept_address },
      c.self.invariant.5,
    )

pub overhear-requires-clause-fixed : goal.overhear-requires-clause-fixed
overhear-requires-clause-fixed c =
    let s = c.self.inside in
    is_fixed s.plan s.number s.steps.steps s.rstp s.address.0 (Hears c.args.port c.as_slice.result.now)
    c.self.invariant.4 (sym c.in-Ok-hear.ensures.change ∙ c.in_default-heard.is)

pub returns-in_default-heard : goal.returns-in_default-heard
returns-in_default-heard c =
    subst (λ (v : BridgeView). HasTaken v c.args.port c.args.item c.overhear.result c.overhear.new.self)
    c.self.view_is c.overhear.ensures

-- the change is the machine's
told : (c : goal.After-append) → change_next c.self.inside.rstp (Hears c.args.port c.args.item.wire) ≡ Some
    c.in-Some.change
told c = ap (λ w. change_next c.self.inside.rstp (Hears c.args.port w)) (sym c.as_slice.ensures)
    ∙ sym c.in-Ok-hear.ensures.change ∙ c.in-Some.is

pub follow-moved-requires-clause-change : goal.follow-moved-requires-clause-change
follow-moved-requires-clause-change c =
    of_ports c.self.inside (Hears c.args.port c.args.item.wire) c.in-Some.change c.self.invariant
    (ap (λ w. change_next c.self.inside.rstp (Hears c.args.port w)) (sym c.as_slice.ensures)
    ∙ sym c.in-Ok-hear.ensures.change ∙ c.in-Some.is)

-- the step may come there
fits : (c : goal.After-append) → Fits spanning_tree c.self.inside.plan c.self.inside.number c.self.inside.steps.steps
    (Receive c.args.port c.args.item None Heard (Some c.follow-moved.result))
fits c =
    heard_fits c.self.inside.plan c.self.inside.number c.self.inside.steps.steps c.args.port c.args.item
    c.follow-moved.result
    (ap (λ (v : BridgeView). ruling spanning_tree v.plan v.number v.steps c.args.port c.args.item) c.self.view_is
    ∙ c.requires.ruling)
    (followed_names c.self.inside (Hears c.args.port c.args.item.wire) c.in-Some.change c.follow-moved.result
    c.self.inside.forwarding.table c.follow-moved.new.forwarding c.self.invariant (told c) c.follow-moved.ensures)

pub invariant_of-self-2 : goal.invariant_of-self-2
invariant_of-self-2 c =
    let s = c.self.inside in
    after_followed s (Hears c.args.port c.args.item.wire) c.in-Some.change c.follow-moved.result s.forwarding.table
    c.follow-moved.new.forwarding s.clock c.hear.new.rstp c.append.new.self
    (Receive c.args.port c.args.item None Heard (Some c.follow-moved.result)) c.self.invariant c.self.view_is
    c.requires.reserved (told c) c.follow-moved.ensures
    (c.in-Ok-hear.ensures.ok ∙ ap (λ w. machine_next s.rstp (Hears c.args.port w)) c.as_slice.ensures)
    (c.append.ensures.steps ∙ ap (steps_with s.steps) c.heard_step.ensures) refl (fits c) refl (λ _. refl)
    (λ _ _. refl) refl (omega arith) c.self.invariant.3 c.self.invariant.1.stations

pub returns : goal.returns
returns c =
    taken c.self.inside c.append.new.self c.args.port c.args.item None Heard (Some c.follow-moved.result) _
    c.self.view_is (fits c) (c.append.ensures.steps ∙ ap (steps_with c.self.inside.steps) c.heard_step.ensures)
    (c.append.ensures.back ∙ ap (given_back c.self.inside.steps.is_kept) c.heard_step.ensures)
