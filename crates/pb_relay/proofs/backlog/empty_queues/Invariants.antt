use Rattle.std.proofs.Common.{◌≡◌, replicate}
use Rattle.pb_relay.specs.Classes.{no_items}
use Rattle.pb_relay.proofs.backlog.empty_queues.Given as goal

abbrev pub invariant-loop-port : goal.invariant-loop-port
invariant-loop-port l = l.queues.items ≡ replicate l._port no_items
