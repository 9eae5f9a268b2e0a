use Rattle.std.proofs.Common.{◌≡◌, false, sym, subst, ap, ◌∙◌}
use Rattle.pb_lan.specs.Plans.{IsSound}
use Rattle.pb_lan.specs.declared.plan.Plan.{Plan}
use Rattle.pb_relay.specs.Standing.{BridgeView, at_start}
use Rattle.pb_cmd_flat.specs.FlatPlans.{flat_plan}
use Rattle.pb_cmd_flat.specs.Quiet.{IsQuiet}
use Rattle.pb_cmd_flat.proofs.FlatPlanLaws.{flat_sound}
use Rattle.pb_cmd_flat.proofs.HandleLaws.{quiet_start}
use Rattle.pb_cmd_flat.proofs.switch.Switch.new.Goals as goal

pub counting-requires-clause-sound : goal.counting-requires-clause-sound
counting-requires-clause-sound c =
    let same : c.in_ok-plan.plan ≡ flat_plan c.args.ports = c.in_ok-plan.ensures in
    subst IsSound (sym same) (flat_sound c.args.ports c.requires.0 c.requires.1)

pub invariant_of-result : goal.invariant_of-result
invariant_of-result c =
    let same : c.in_ok-plan.plan ≡ flat_plan c.args.ports = c.in_ok-plan.ensures in
    let bridge : c.in_ok-bridge.bridge ≡ at_start (flat_plan c.args.ports) 1 false = c.in_ok-bridge.ensures
    ∙ ap (λ (p : Plan). at_start p 1 false) same in (
      c.requires.0,
      c.requires.1,
      λ e. subst (λ (v : BridgeView). IsQuiet c.args.ports v) (sym bridge)
          (quiet_start c.args.ports),
    )
