use Rattle.std.specs.Option.{option_to_list}
use Rattle.pb_rstp.specs.Settling.{moved_on}
use Rattle.pb_rstp.proofs.InPlace.{HaveChanged}
use Rattle.pb_rstp.proofs.TopologyLaws.{telling}
use Rattle.pb_rstp.proofs.topology.report.Given as goal

abbrev pub invariant-loop-p : goal.invariant-loop-p
invariant-loop-p l =
    HaveChanged (moved_on (telling l.prompt l.is_any_opened (option_to_list l.changed))) l.initial.ports l.p-index l.ports
