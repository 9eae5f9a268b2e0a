use Rattle.std.proofs.Common.{◌∷◌, ◌++◌, [], Some, None, refl, ap, ◌∙◌}
use Rattle.pb_frame.specs.Frames.{src_of}
use Rattle.pb_relay.specs.Protocol.{spanning_tree}
use Rattle.pb_lan.specs.BridgeLists.{ruling, Fits}
use Rattle.pb_lan.specs.declared.step.Outcome.TheVariants.{Filtered}
use Rattle.pb_frame.specs.declared.reason.Reason.TheVariants.{NotForwarding}
use Rattle.pb_lan.specs.declared.step.Step.{Step}
use Rattle.pb_lan.specs.declared.step.Step.TheVariants.{Receive}
use Rattle.pb_relay.specs.Standing.{BridgeView, IsStanding}
use Rattle.pb_relay.specs.Tables.{IsTableOf}
use Rattle.pb_relay.proofs.ReceiveLemmas.{learnt_there, learnt_alone}
use Rattle.pb_relay.proofs.CauseLemmas.{spanning_stays}
use Rattle.pb_relay.proofs.Keeping.{grown, taken}
use Rattle.pb_relay.proofs.bridge.Bridge.learn_only.Goals as goal

-- the step may come there, and the invariant holds after it
whole : (c : goal.After-append_receive)
    → Fits spanning_tree c.self.inside.plan c.self.inside.number c.self.inside.steps.steps
    (Receive c.args.port c.args.item (Some c.learn-learnt.result) (Filtered NotForwarding) None)
    × IsStanding c.self.inside.plan c.self.inside.number
    (c.self.inside.steps.steps ++ Receive c.args.port c.args.item (Some c.learn-learnt.result)
    (Filtered NotForwarding) None ∷ [])
    c.self.inside.forwarding.states c.self.inside.forwarding.backlog.ports c.self.inside.clock
    c.learn-learnt.new.self.sightings
    × IsTableOf c.self.inside.plan c.self.inside.clock c.learn-learnt.new.self
whole c =
    let learns = learnt_there c.self.inside c.args.vid c.args.port c.source_of-source.result.0
    (src_of c.args.item.wire) c.learn-learnt.new.self c.learn-learnt.result c.self.invariant
    (c.source_of-source.ensures ∙ ap src_of c.as_slice.ensures) c.learn-learnt.ensures.answer
    c.learn-learnt.ensures.table in
    let r = learnt_alone c.self.inside c.learn-learnt.new.self.sightings c.args.port c.args.vid c.args.item
    c.learn-learnt.result c.self.invariant
    (ap (λ (v : BridgeView). ruling spanning_tree v.plan v.number v.steps c.args.port c.args.item) c.self.view_is
    ∙ c.requires.ruling)
    learns.0 in
    (r.0, r.1, learns.1)

pub invariant_of-self : goal.invariant_of-self
invariant_of-self c =
    let s = c.self.inside in
    let step : Step = Receive c.args.port c.args.item (Some c.learn-learnt.result) (Filtered NotForwarding) None in
    grown s (record s.forwarding { table = c.learn-learnt.new.self }) s.clock s.rstp c.append_receive.new.steps step
    c.self.invariant c.self.view_is c.requires.reserved c.append_receive.ensures.steps refl refl (whole c).1
    (whole c).2 (spanning_stays _ _ _ _ _ step refl c.self.invariant.4)

pub returns : goal.returns
returns c =
    taken c.self.inside c.append_receive.new.steps c.args.port c.args.item (Some c.learn-learnt.result)
    (Filtered NotForwarding) None _ c.self.view_is (whole c).0 c.append_receive.ensures.steps
    c.append_receive.ensures.back
