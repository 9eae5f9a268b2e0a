use Rattle.std.proofs.Common.{◌≡◌, ◌==◌, ◌&&◌, drop}
use Rattle.std.specs.List.{list_any}
use Rattle.pb_rstp.specs.Ports.{is_root_or_designated}
use Rattle.pb_rstp.proofs.topology.is_in_tree.Given as goal

abbrev pub invariant-loop-p : goal.invariant-loop-p
invariant-loop-p l =
    list_any (λ p. p.now.number == l.number && is_root_or_designated p.now.role) (drop l.p-index l.ports)
    ≡ list_any (λ p. p.now.number == l.number && is_root_or_designated p.now.role) l.ports
