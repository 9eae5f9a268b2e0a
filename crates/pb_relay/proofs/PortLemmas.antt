-- The configuration of a port says what the plan has there. For `has_port` and `has_link`.
use Rattle.std.proofs.Common.{◌≡◌, ℕ, ◌-◌, ◌≤◌, ◌||◌, false, get_or, refl, sym, arith}
use Rattle.pb_frame.proofs.Lists.{false-unless}
use Rattle.pb_lan.specs.Ports.{Port, port_at, is_used, is_provider}
use Rattle.pb_lan.specs.Ports.Port.{Customer, Provider, Unused}
use Rattle.pb_lan.specs.declared.plan.Plan.{Plan}
use Rattle.pb_relay.specs.declared.bridge.Bridge.TheInside.{Inside}
use Rattle.pb_relay.proofs.Keeping.{Keeps}
use Rattle.pb_relay.proofs.LoadLemmas.{kept_here}
use Rattle.pb_relay.proofs.SettingLemmas.{provider_used}
use Rattle.pb_relay.proofs.StandingLemmas.{used_port}
use Rattle.pb_relay.specs.Kinds.{is_to_customer, is_to_bridge}
use Rattle.pb_relay.specs.LocalPorts.{IsKept}
use Rattle.pb_relay.specs.PortKinds.{LocalPort}
use Rattle.pb_relay.specs.PortKinds.LocalPort.{ToCustomer, ToBridge, ToNobody}

-- a configured port goes to another bridge, or is used, if and only if the plan says so
told_where : (plan : Plan) (port : Port) (local : LocalPort) → IsKept plan port local
    → (is_to_bridge local ≡ is_provider port) × ((is_to_customer local || is_to_bridge local) ≡ is_used port)
told_where plan (Customer c) (ToCustomer vid pcp) k = (refl, refl)
told_where plan (Provider e) (ToBridge start vids) k = (refl, refl)
told_where plan Unused ToNobody k = (refl, refl)
told_where plan _ _ k = absurd k

-- the same of each local port of a bridge
pub told_at : (s : Inside) (p : ℕ) → Keeps s → (p ≡ 0 → ⊥) → p ≤ 16
    → (is_to_bridge (get_or s.ports (p - 1) ToNobody) ≡ is_provider (port_at s.plan s.number p))
    × ((is_to_customer (get_or s.ports (p - 1) ToNobody) || is_to_bridge (get_or s.ports (p - 1) ToNobody))
    ≡ is_used (port_at s.plan s.number p))
told_at s p k some few =
    told_where s.plan (port_at s.plan s.number p) (get_or s.ports (p - 1) ToNobody)
    (kept_here s.plan s.number s.ports _ _ p k.0 (omega arith, few))

-- no other number is a port to another bridge, or a used port
pub none_elsewhere : (s : Inside) (p : ℕ) → Keeps s → ((1 ≤ p) × (p ≤ 16) → ⊥)
    → (false ≡ is_provider (port_at s.plan s.number p)) × (false ≡ is_used (port_at s.plan s.number p))
none_elsewhere s p k never = (
  sym (false-unless _ (λ u. never (used_port s.plan s.number p k.0.sound (provider_used _ u)))),
  sym (false-unless _ (λ u. never (used_port s.plan s.number p k.0.sound u))),
)
