use Rattle.std.proofs.Common.{take}
use Rattle.pb_net.specs.Answers.{HaveRun}
use Rattle.pb_net.proofs.net.Net.run.Given as goal

abbrev pub invariant-loop-count : goal.invariant-loop-count
invariant-loop-count l = HaveRun l.fn.self (take l.count l.events) l.self
