use Rattle.std.proofs.Common.{◌-◌, get_or, None, arith, sym, ap, subst, ◌∙◌}
use Rattle.std.specs.Prelude.{IfOk}
use Rattle.pb_lan.specs.Ports.{port_at}
use Rattle.pb_relay.specs.Protocol.{spanning_tree}
use Rattle.pb_lan.specs.BridgeLists.{ruling, Fits}
use Rattle.pb_lan.specs.declared.step.Outcome.TheVariants.{Filtered}
use Rattle.pb_frame.specs.declared.reason.Reason.TheVariants.{Memory}
use Rattle.pb_lan.specs.declared.step.Step.TheVariants.{Receive}
use Rattle.pb_relay.proofs.ReceiveLemmas.{given_up}
use Rattle.pb_relay.specs.Loads.{IsLoadedAt, IsLoad, IsLoadable}
use Rattle.pb_relay.specs.Standing.{BridgeView}
use Rattle.pb_relay.proofs.EntryLemmas.{loadable, sound_port}
use Rattle.std.specs.List.{list_any}
use Rattle.pb_relay.specs.Kinds.{is_to_customer, is_to_bridge}
use Rattle.pb_relay.specs.PortKinds.LocalPort.{ToNobody}
use Rattle.pb_relay.specs.declared.ports.Local.{Local}
use Rattle.pb_relay.proofs.Keeping.{used_there}
use Rattle.pb_relay.proofs.LoadLemmas.{loaded, kept_here}
use Rattle.pb_relay.proofs.bridge.Bridge.relay_formed.Goals as goal

pub index_of-requires : goal.index_of-requires
index_of-requires c = (used_there c.self.inside c.args.port c.self.invariant c.self.view_is c.requires.used).0

pub at-local-requires : goal.at-local-requires
at-local-requires c =
    let l = used_there c.self.inside c.args.port c.self.invariant c.self.view_is c.requires.used in
    omega (arith, l.0, l.1, c.index_of.ensures)

pub new-load-requires : goal.new-load-requires
new-load-requires c =
    let l = used_there c.self.inside c.args.port c.self.invariant c.self.view_is c.requires.used in
    subst (λ (z : Local). IsLoadable z c.args.item.wire) (sym (rw c.index_of.ensures at c.at-local.ensures))
    (loadable c.self.inside.plan (port_at c.self.inside.plan c.self.inside.number c.args.port)
    (get_or c.self.inside.ports (c.args.port - 1) ToNobody) _ c.args.item _ c.self.invariant.0.sound
    (sound_port c.self.inside.plan c.self.inside.number c.args.port c.self.invariant.0.sound)
    (kept_here c.self.inside.plan _ _ _ _ c.args.port c.self.invariant.0 l)
    (ap (λ (v : BridgeView). ruling spanning_tree v.plan v.number v.steps c.args.port c.args.item) c.self.view_is
    ∙ c.requires.ruling))

pub carry-requires-clause-load : goal.carry-requires-clause-load
carry-requires-clause-load c =
    let l = used_there c.self.inside c.args.port c.self.invariant c.self.view_is c.requires.used in
    let made = subst (λ r. IfOk r (IsLoad (list_any is_to_customer c.self.inside.ports)
    (list_any is_to_bridge c.self.inside.ports) c.at-local.result c.args.item.wire)) c.in-Ok.is
    c.new-load.ensures in
    subst (λ (v : BridgeView). IsLoadedAt v.plan v.number (port_at v.plan v.number c.args.port) c.args.item.wire
    c.in-Ok.load) c.self.view_is
    (loaded c.self.inside.plan c.self.inside.number c.self.inside.ports _ _ _
    (get_or c.self.inside.ports (c.args.port - 1) ToNobody) c.args.item.wire c.in-Ok.load c.self.invariant.0
    (kept_here c.self.inside.plan _ _ _ _ c.args.port c.self.invariant.0 l)
    (subst (λ (z : Local). IsLoad (list_any is_to_customer c.self.inside.ports)
    (list_any is_to_bridge c.self.inside.ports) z c.args.item.wire c.in-Ok.load)
    (rw c.index_of.ensures at c.at-local.ensures) made))

pub give_up-requires-clause-fits : goal.give_up-requires-clause-fits
give_up-requires-clause-fits c =
    subst (λ (v : BridgeView). Fits spanning_tree v.plan v.number v.steps
    (Receive c.args.port c.args.item None (Filtered Memory) None)) c.self.view_is
    (given_up c.self.inside.plan c.self.inside.number c.self.inside.steps.steps c.args.port c.args.item c.args.vid
    (ap (λ (v : BridgeView). ruling spanning_tree v.plan v.number v.steps c.args.port c.args.item) c.self.view_is
    ∙ c.requires.ruling))
