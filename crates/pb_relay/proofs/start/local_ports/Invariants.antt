use Rattle.pb_relay.specs.Starts.{HasAttached}
use Rattle.pb_relay.proofs.start.local_ports.Given as goal

abbrev pub invariant-loop-r : goal.invariant-loop-r
invariant-loop-r l = HasAttached l.plan l.number l.services l.starts l.r
