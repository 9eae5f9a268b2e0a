use Rattle.std.proofs.Common.{◌≡◌, ◌++◌, drop}
use Rattle.std.specs.Option.{option_to_list}
use Rattle.pb_rstp.proofs.TopologyLaws.{numbers_by}
use Rattle.pb_rstp.proofs.topology.flushed.Given as goal

abbrev pub invariant-loop-p : goal.invariant-loop-p
invariant-loop-p l =
    l.numbers.items ++ numbers_by (option_to_list l.changed) l.ports (drop l.p-index l.ports)
    ≡ numbers_by (option_to_list l.changed) l.ports l.ports
