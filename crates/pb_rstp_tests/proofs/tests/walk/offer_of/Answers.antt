use Rattle.std.proofs.Common.{◌≡◌, ℕ, List, [], ◌∷◌, Some, refl, sym, ap, ◌∙◌, Bool, true, false, ◌==◌, ◌||◌, is_some}
use Rattle.std.proofs.Common.{if◌then◌else◌}
use Rattle.std.specs.List.{list_any}
use Rattle.pb_rstp.specs.Ports.{port_of}
use Rattle.pb_rstp.specs.Readings.{roles_of}
use Rattle.pb_rstp.specs.declared.port.Port.{Port}
use Rattle.pb_rstp_tests.proofs.tests.walk.offer_of.Goals as goal

any-roles : (ps : List Port) (k : ℕ) → list_any (λ r. r.0 == k) (roles_of ps) ≡ is_some (port_of ps k)
any-roles [] k = refl
any-roles (p ∷ ps) k = by_test (p.number == k) (any-roles ps k)
  where
    by_test : (t : Bool) → list_any (λ r. r.0 == k) (roles_of ps) ≡ is_some (port_of ps k)
        → (t || list_any (λ r. r.0 == k) (roles_of ps)) ≡ is_some (if t then Some p else port_of ps k)
    by_test true e = refl
    by_test false e = e

pub vector-requires : goal.vector-requires
vector-requires c =
    sym (any-roles c.args.bridge.now.ports c.args.port)
    ∙ ap (λ roles. list_any (λ r. r.0 == c.args.port) roles) (sym c.roles.ensures.roles)
    ∙ sym c.has_port.ensures
    ∙ c.if-has_port.true
