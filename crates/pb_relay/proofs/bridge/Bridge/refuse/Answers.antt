use Rattle.std.proofs.Common.{◌∙◌, None, refl, sym, ap, subst}
use Rattle.pb_lan.specs.BridgeLists.{ruling, Ruling, Follows}
use Rattle.pb_lan.specs.declared.step.Outcome.TheVariants.{Filtered}
use Rattle.pb_relay.specs.Standing.{BridgeView}
use Rattle.pb_relay.specs.Protocol.{spanning_tree}
use Rattle.pb_relay.proofs.Keeping.{filtered}
use Rattle.pb_relay.proofs.bridge.Bridge.refuse.Goals as goal

pub invariant_of-self : goal.invariant_of-self
invariant_of-self c =
    let r = ap (λ (v : BridgeView). ruling spanning_tree v.plan v.number v.steps c.args.port c.args.item) c.self.view_is
    ∙ c.requires.ruling in
    filtered c.self.inside c.append_receive.new.steps c.args.port c.args.item c.args.reason c.self.invariant
    c.self.view_is c.requires.reserved c.append_receive.ensures.steps
    (subst (λ (z : Ruling). Follows spanning_tree c.self.inside.plan c.self.inside.number c.self.inside.steps.steps
    c.args.port c.args.item None (Filtered c.args.reason) None z) (sym r) (refl, refl, refl))
