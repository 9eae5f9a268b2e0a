use Rattle.std.proofs.Common.{◌≡◌, take}
use Rattle.pb_relay.specs.Moves.{all_flushed}
use Rattle.pb_relay.proofs.following.flush_all.Given as goal

abbrev pub invariant-loop-port : goal.invariant-loop-port
invariant-loop-port l = l.table ≡ all_flushed l.initial.table (take l.port-index l.ports)
