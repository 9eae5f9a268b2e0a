use Rattle.std.proofs.Common.{List, ◌-◌, ◌≡◌, get_or, arith, ap, subst, ◌∙◌, IfOk}
use Rattle.pb_lan.specs.Ports.{port_at, is_provider}
use Rattle.pb_lan.specs.Shapes.{state_after}
use Rattle.pb_lan.specs.declared.shape.PortState.{PortState}
use Rattle.pb_lan.specs.declared.shape.PortState.TheVariants.{Discarding}
use Rattle.pb_lan.specs.declared.step.Moved.{Moved}
use Rattle.pb_relay.specs.Changes.{moved_to, moved_by_setting, state_set}
use Rattle.pb_relay.specs.Standing.{BridgeView}
use Rattle.pb_relay.proofs.SettingLemmas.{state_set_is, moved_is}
use Rattle.pb_relay.proofs.Keeping.{linked_there}
use Rattle.pb_relay.proofs.VerdictLemmas.{at_port}
use Rattle.pb_relay.specs.PortKinds.LocalPort.{ToNobody}
use Rattle.pb_relay.specs.declared.ports.Local.{Local}
use Rattle.pb_relay.proofs.LoadLemmas.{kept_here}
use Rattle.pb_relay.proofs.bridge.Bridge.moved_by_setting.Goals as goal

pub index_of-place-requires : goal.index_of-place-requires
index_of-place-requires c = (linked_there c.self.inside c.args.port c.self.invariant c.self.view_is c.requires).0

pub at-requires : goal.at-requires
at-requires c =
    let l = linked_there c.self.inside c.args.port c.self.invariant c.self.view_is c.requires in
    omega (arith, l.0, l.1, c.index_of-place.ensures)

pub bounds-self-inside-place : goal.bounds-self-inside-place
bounds-self-inside-place c =
    let l = linked_there c.self.inside c.args.port c.self.invariant c.self.view_is c.requires in
    omega (arith, l.0, l.1, c.index_of-place.ensures)

pub returns : goal.returns
returns c =
    let s = c.self.inside in
    let p = ap (λ (v : BridgeView). is_provider (port_at v.plan v.number c.args.port)) c.self.view_is ∙ c.requires in
    let l = linked_there s c.args.port c.self.invariant c.self.view_is c.requires in
    let e : moved_to c.args.port c.args.up (get_or s.forwarding.states (c.args.port - 1) Discarding)
    c.state_set-next.result
    ≡ moved_by_setting c.args.self.now.plan c.args.self.now.number c.args.self.now.steps c.args.port c.args.up =
    ap (λ (z : PortState). moved_to c.args.port c.args.up z c.state_set-next.result)
    (ap (λ (ss : List PortState). get_or ss (c.args.port - 1) Discarding) c.self.invariant.1.kept_states
    ∙ at_port (state_after s.plan s.number s.steps.steps) c.args.port Discarding l.0 l.1)
    ∙ ap (λ (z : PortState). moved_to c.args.port c.args.up (state_after s.plan s.number s.steps.steps c.args.port) z)
    (c.state_set-next.ensures ∙ ap (λ (z : Local). state_set z c.args.up) (rw c.index_of-place.ensures at c.at.ensures)
    ∙ state_set_is s.plan s.number c.args.port (get_or s.ports (c.args.port - 1) ToNobody) c.args.up p
    (kept_here s.plan _ _ _ _ c.args.port c.self.invariant.0 l))
    ∙ moved_is s.plan s.number s.steps.steps c.args.port c.args.up
    ∙ ap (λ (v : BridgeView). moved_by_setting v.plan v.number v.steps c.args.port c.args.up) c.self.view_is in
    subst (λ (m : Moved). IfOk c.moved_to.result (λ moved. moved ≡ m)) e
    (rw c.index_of-place.ensures at c.moved_to.ensures)
