use Rattle.std.proofs.Common.{ℕ, ◌≤◌, ◌||◌, get_or, arith, ap, ◌∙◌}
use Rattle.pb_lan.specs.Ports.{port_at, is_used}
use Rattle.pb_relay.specs.Kinds.{is_bridge_told, is_customer_told, is_to_bridge, is_to_customer}
use Rattle.pb_relay.specs.PortKinds.LocalPort.{ToNobody}
use Rattle.pb_relay.specs.Standing.{BridgeView}
use Rattle.pb_relay.specs.declared.ports.Local.{Local}
use Rattle.pb_relay.proofs.PortLemmas.{told_at, none_elsewhere}
use Rattle.pb_relay.proofs.bridge.Bridge.has_port.Goals as goal
use Rattle.pb_relay.proofs.bridge.Bridge.has_port.Goals.{then-port-eq0-via-then-port-eq0}
use Rattle.pb_relay.proofs.bridge.Bridge.has_port.Goals.{then-port-eq0-via-else-port-eq0+then-port-gt-PORTS}

pub returns-then-port-eq0 : goal.returns-then-port-eq0
returns-then-port-eq0 c =
    let outside : (1 ≤ c.args.port) × (c.args.port ≤ 16) → ⊥ = elim c.then-port-eq0.branch [
      | then-port-eq0-via-then-port-eq0 w ↦ λ l. omega (arith, l.0, w.if-port-eq0.true)
      | then-port-eq0-via-else-port-eq0+then-port-gt-PORTS w ↦ λ l. omega (arith, l.1, w.if-port-gt-PORTS.true)
    ] in
    (none_elsewhere c.self.inside c.args.port c.self.invariant outside).1
    ∙ ap (λ (v : BridgeView). is_used (port_at v.plan v.number c.args.port)) c.self.view_is

pub returns : goal.returns
returns c =
    ap (λ b. b || c.is_bridge.result) c.is_customer.ensures
    ∙ ap (λ b. is_customer_told c.at-local.result || b) c.is_bridge.ensures
    ∙ ap (λ (l : Local). is_customer_told l || is_bridge_told l) c.at-local.ensures
    ∙ ap (λ (k : ℕ). is_to_customer (get_or c.self.inside.ports k ToNobody)
    || is_to_bridge (get_or c.self.inside.ports k ToNobody)) c.index_of.ensures
    ∙ (told_at c.self.inside c.args.port c.self.invariant c.if-port-eq0.false c.if-port-gt-PORTS.false).1
    ∙ ap (λ (v : BridgeView). is_used (port_at v.plan v.number c.args.port)) c.self.view_is
