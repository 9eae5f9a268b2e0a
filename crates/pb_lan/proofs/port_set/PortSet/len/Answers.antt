use Rattle.std.proofs.Common.{◌≡◌, ◌==◌, List, ℕ, length, ap, sym, subst, ◌∙◌, arith}
use Rattle.std.specs.List.{count_by, list_any}
use Rattle.pb_lan.specs.Ports.{local_ports}
use Rattle.pb_lan.proofs.PortCounts.{all_stand, ones_are}
use Rattle.pb_lan.proofs.port_set.PortSet.len.Goals as goal

pub returns-clause-exact : goal.returns-clause-exact
returns-clause-exact c = sym (ones_are 16 1 c.self.inside.bits (omega arith)) ∙ ap length c.self.view_is

pub returns-clause-each : goal.returns-clause-each
returns-clause-each c =
    subst (λ (ps : List ℕ). count_by (λ port. list_any (λ p. p == port) ps) local_ports ≡ length ps) c.self.view_is
    (all_stand 16 1 c.self.inside.bits)
