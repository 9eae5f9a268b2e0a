use Rattle.std.proofs.Common.{◌≡◌, ◌==◌, ◌&&◌, not, drop}
use Rattle.std.specs.List.{list_any}
use Rattle.pb_rstp.specs.Settling.{has_opened}
use Rattle.pb_rstp.proofs.topology.has_other_opened.Given as goal

abbrev pub invariant-loop-p : goal.invariant-loop-p
invariant-loop-p l =
    list_any (λ p. has_opened p && not (p.now.number == l.number)) (drop l.p-index l.ports)
    ≡ list_any (λ p. has_opened p && not (p.now.number == l.number)) l.ports
