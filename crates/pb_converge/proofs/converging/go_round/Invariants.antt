use Rattle.std.proofs.Common.{◌≡◌, ◌≤◌}
use Rattle.pb_converge.specs.Drives.{AreRounds}
use Rattle.pb_converge.proofs.converging.go_round.Given as goal

abbrev pub invariant-loop-tick : goal.invariant-loop-tick
invariant-loop-tick l = record {
  rounds : AreRounds l._tick l.done l.fn.net l.net;
  within : l.done ≤ l.events;
  plan : l.net.plan ≡ l.plan;
}
