use Rattle.pb_workers.specs.Workers.{IsSameBridge}
use Rattle.pb_workers.proofs.bridge.BridgeWorker.look.Given as goal

abbrev pub invariant-loop-ahead : goal.invariant-loop-ahead
invariant-loop-ahead g l = IsSameBridge l.initial.self l.self
