use Rattle.std.proofs.Common.{◌≡◌}
use Rattle.pb_converge.specs.Drives.{HaveDone}
use Rattle.pb_converge.proofs.TickLemmas.{ticks_to}
use Rattle.pb_converge.proofs.converging.tick_all.Given as goal

abbrev pub invariant-loop-place : goal.invariant-loop-place
invariant-loop-place l = record {
  done : HaveDone l.fn.net (ticks_to l.place) l.net;
  plan : l.net.plan ≡ l.plan;
}
