use Rattle.pb_workers.specs.Bridges.{AreUsed}
use Rattle.pb_workers.proofs.used.used_ports.Given as goal

abbrev pub invariant-loop-port : goal.invariant-loop-port
invariant-loop-port l = AreUsed l.plan l.bridge l.count l.ports.items
