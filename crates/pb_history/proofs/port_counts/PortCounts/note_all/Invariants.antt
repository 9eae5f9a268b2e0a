use Rattle.std.proofs.Common.{◌≡◌, ◌++◌, take}
use Rattle.pb_history.proofs.port_counts.PortCounts.note_all.Given as goal

abbrev pub invariant-loop-loss : goal.invariant-loop-loss
invariant-loop-loss l = l.self ≡ l.initial.self ++ take l.loss-index l.losses
