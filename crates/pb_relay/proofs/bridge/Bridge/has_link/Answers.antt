use Rattle.std.proofs.Common.{◌≤◌, get_or, arith, ap, ◌∙◌}
use Rattle.pb_lan.specs.Ports.{port_at, is_provider}
use Rattle.pb_relay.specs.Kinds.{is_bridge_told, is_to_bridge}
use Rattle.pb_relay.specs.PortKinds.LocalPort.{ToNobody}
use Rattle.pb_relay.specs.Standing.{BridgeView}
use Rattle.pb_relay.proofs.PortLemmas.{told_at, none_elsewhere}
use Rattle.pb_relay.proofs.bridge.Bridge.has_link.Goals as goal
use Rattle.pb_relay.proofs.bridge.Bridge.has_link.Goals.{then-port-eq0-via-then-port-eq0}
use Rattle.pb_relay.proofs.bridge.Bridge.has_link.Goals.{then-port-eq0-via-else-port-eq0+then-port-gt-PORTS}

pub returns-then-port-eq0 : goal.returns-then-port-eq0
returns-then-port-eq0 c =
    let outside : (1 ≤ c.args.port) × (c.args.port ≤ 16) → ⊥ = elim c.then-port-eq0.branch [
      | then-port-eq0-via-then-port-eq0 w ↦ λ l. omega (arith, l.0, w.if-port-eq0.true)
      | then-port-eq0-via-else-port-eq0+then-port-gt-PORTS w ↦ λ l. omega (arith, l.1, w.if-port-gt-PORTS.true)
    ] in
    (none_elsewhere c.self.inside c.args.port c.self.invariant outside).0
    ∙ ap (λ (v : BridgeView). is_provider (port_at v.plan v.number c.args.port)) c.self.view_is

pub returns : goal.returns
returns c =
    c.is_bridge.ensures ∙ ap is_bridge_told c.at.ensures
    ∙ ap (λ k. is_to_bridge (get_or c.self.inside.ports k ToNobody)) c.index_of.ensures
    ∙ (told_at c.self.inside c.args.port c.self.invariant c.if-port-eq0.false c.if-port-gt-PORTS.false).0
    ∙ ap (λ (v : BridgeView). is_provider (port_at v.plan v.number c.args.port)) c.self.view_is
