use Rattle.std.proofs.Common.{arith, sym, ap, ◌∙◌, [], None, Some, append-nil, refl}
use Rattle.pb_frame.specs.Stations.{standing}
use Rattle.pb_lan.specs.BridgeLists.{ruling}
use Rattle.pb_lan.specs.Choice.{news_of}
use Rattle.pb_lan.specs.Rules.Cause.{Hears}
use Rattle.pb_lan.specs.declared.step.Moved.{Moved}
use Rattle.pb_lan.specs.declared.step.Outcome.TheVariants.{Heard}
use Rattle.pb_lan.specs.declared.step.Step.{Step}
use Rattle.pb_lan.specs.declared.step.Step.TheVariants.{Receive}
use Rattle.pb_relay.specs.Changes.{unmoved}
use Rattle.pb_relay.specs.Protocol.{spanning_tree}
use Rattle.pb_relay.specs.Standing.{BridgeView}
use Rattle.pb_relay.proofs.CauseLemmas.{spanning_fixed}
use Rattle.pb_relay.proofs.FollowLemmas.{heard_fits}
use Rattle.pb_relay.proofs.Keeping.{grown}
use Rattle.pb_relay.proofs.MovedLemmas.{after_unsent}
use Rattle.pb_relay.proofs.StandingLemmas.{fixed_names}
use Rattle.pb_history.specs.StepLists.{with_step as steps_with}
use Rattle.pb_relay.proofs.bridge.Bridge.overhear.Goals as goal

pub invariant_of-self : goal.invariant_of-self
invariant_of-self c =
    let s = c.self.inside in
    let step : Step = Receive c.args.port c.args.item None Heard (Some unmoved) in
    let r = ap (λ (v : BridgeView). ruling spanning_tree v.plan v.number v.steps c.args.port c.args.item) c.self.view_is
    ∙ c.requires.ruling in
    let fixed = ap (λ (v : BridgeView). v.plan.spanning) c.self.view_is ∙ c.requires.fixed in
    grown s s.forwarding s.clock s.rstp c.append.new.self step c.self.invariant c.self.view_is c.requires.reserved
    (c.append.ensures.steps ∙ ap (steps_with s.steps) (c.heard_step.ensures
    ∙ ap (λ (m : Moved). Receive c.args.port c.args.item None Heard (Some m)) c.nothing_moved-moved.ensures)) refl refl
    (after_unsent s.plan s.number s.steps.steps s.forwarding.states s.forwarding.backlog.ports s.clock s.clock
    s.forwarding.table.sightings s.forwarding.table.sightings step [] [] c.self.invariant.1
    (heard_fits s.plan s.number s.steps.steps c.args.port c.args.item unmoved r
    (fixed_names s.plan s.number s.steps.steps (Hears c.args.port c.args.item.wire) fixed refl))
    refl (λ _. refl) (λ _ _. refl) refl tt (omega arith)
    (c.self.invariant.1.stations
    ∙ ap (standing s.plan.ageing s.clock) (sym (append-nil (news_of s.plan s.number s.steps.steps)))))
    c.self.invariant.3 (spanning_fixed _ _ _ _ _ step fixed c.self.invariant.4)
