use Rattle.std.proofs.Common.{◌-◌, get_or, arith, ap, ◌∙◌}
use Rattle.pb_relay.specs.PortKinds.LocalPort.{ToNobody}
use Rattle.pb_relay.proofs.LoadLemmas.{kept_here}
use Rattle.pb_lan.specs.Ports.{port_at, is_used}
use Rattle.pb_lan.specs.BridgeLists.{ruling}
use Rattle.pb_relay.specs.Standing.{BridgeView}
use Rattle.pb_relay.specs.Protocol.{spanning_tree}
use Rattle.pb_relay.proofs.Keeping.{used_there}
use Rattle.pb_relay.proofs.VerdictLemmas.{used_here, rule_is}
use Rattle.pb_relay.proofs.bridge.Bridge.rule.Goals as goal

pub index_of-place-requires : goal.index_of-place-requires
index_of-place-requires c = (used_there c.self.inside c.args.port c.self.invariant c.self.view_is c.requires).0

pub bounds-self-inside-place : goal.bounds-self-inside-place
bounds-self-inside-place c =
    let l = used_there c.self.inside c.args.port c.self.invariant c.self.view_is c.requires in
    omega (arith, l.0, l.1, c.index_of-place.ensures)

pub rule-requires-clause-place : goal.rule-requires-clause-place
rule-requires-clause-place c =
    let l = used_there c.self.inside c.args.port c.self.invariant c.self.view_is c.requires in
    omega (arith, l.0, l.1, c.index_of-place.ensures)

pub rule-requires-clause-somebody : goal.rule-requires-clause-somebody
rule-requires-clause-somebody c =
    let l = used_there c.self.inside c.args.port c.self.invariant c.self.view_is c.requires in
    rw c.index_of-place.ensures
    (used_here c.self.inside.plan _ _ (kept_here c.self.inside.plan _ _ _ _ c.args.port c.self.invariant.0 l)
    (ap (λ (v : BridgeView). is_used (port_at v.plan v.number c.args.port)) c.self.view_is ∙ c.requires))

pub returns : goal.returns
returns c =
    let l = used_there c.self.inside c.args.port c.self.invariant c.self.view_is c.requires in
    let k = kept_here c.self.inside.plan _ _ _ _ c.args.port c.self.invariant.0 l in
    (rw c.index_of-place.ensures at c.rule.ensures)
    ∙ rule_is c.self.inside.plan c.self.inside.number c.self.inside.steps.steps c.self.inside.forwarding.states
    c.args.port (get_or c.self.inside.ports (c.args.port - 1) ToNobody) c.args.item.now _
    c.self.invariant.1.kept_states l k
    ∙ ap (λ (v : BridgeView). ruling spanning_tree v.plan v.number v.steps c.args.port c.args.item.now) c.self.view_is
