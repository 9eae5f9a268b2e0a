use Rattle.std.proofs.Common.{◌≡◌, drop}
use Rattle.std.specs.List.{list_any}
use Rattle.pb_rstp.specs.Settling.{has_opened}
use Rattle.pb_rstp.proofs.topology.has_any_opened.Given as goal

abbrev pub invariant-loop-p : goal.invariant-loop-p
invariant-loop-p l = list_any has_opened (drop l.p-index l.ports) ≡ list_any has_opened l.ports
