use Rattle.std.proofs.Common.{◌≡◌, ◌≤◌, true, Some}
use Rattle.pb_relay.specs.Settled.{TellsConverged}
use Rattle.pb_converge.specs.Drives.{AreRounds, HadNotConverged}
use Rattle.pb_converge.proofs.RecurrenceLemmas.{IsWatched}
use Rattle.pb_converge.proofs.converging.rounds.Given as goal

abbrev pub invariant-loop-ticks : goal.invariant-loop-ticks
invariant-loop-ticks l = record {
  rounds : AreRounds l.ticks l.done l.fn.net l.net;
  within : l.done ≤ l.events;
  plan : l.net.plan ≡ l.plan;
  seen : l.had_converged ≡ true → 1 ≤ l.ticks;
  told : 1 ≤ l.ticks → TellsConverged l.net.plan l.net.rec (Some l.had_converged);
  not_converged : 2 ≤ l.ticks → HadNotConverged l.ticks l.fn.net l.net;
  watched : IsWatched l.most l.ticks l.watch l.fn.net l.net;
}
