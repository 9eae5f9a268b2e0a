use Rattle.std.proofs.Common.{None, sym, subst}
use Rattle.pb_lan.specs.BridgeLists.{Fits}
use Rattle.pb_lan.specs.declared.step.Outcome.TheVariants.{Filtered}
use Rattle.pb_frame.specs.declared.reason.Reason.TheVariants.{Memory}
use Rattle.pb_lan.specs.declared.step.Step.TheVariants.{Receive}
use Rattle.pb_relay.specs.Standing.{BridgeView}
use Rattle.pb_relay.specs.Protocol.{spanning_tree}
use Rattle.pb_relay.proofs.Keeping.{filtered}
use Rattle.pb_relay.proofs.bridge.Bridge.give_up.Goals as goal

pub invariant_of-self : goal.invariant_of-self
invariant_of-self c =
    filtered c.self.inside c.append_receive.new.steps c.args.port c.args.item Memory c.self.invariant c.self.view_is
    c.requires.reserved c.append_receive.ensures.steps
    (subst (λ (v : BridgeView). Fits spanning_tree v.plan v.number v.steps
    (Receive c.args.port c.args.item None (Filtered Memory) None)) (sym c.self.view_is) c.requires.fits)
