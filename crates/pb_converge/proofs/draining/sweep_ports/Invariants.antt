use Rattle.std.proofs.Common.{◌≡◌, ◌≤◌}
use Rattle.pb_converge.specs.Sweeps.{HaveTried, IsAtOneOf, IsAtPort}
use Rattle.pb_converge.proofs.draining.sweep_ports.Given as goal

abbrev pub invariant-loop-place : goal.invariant-loop-place
invariant-loop-place l = record {
  tried : HaveTried (IsAtOneOf (IsAtPort l.bridge) l.place) l.done l.fn.net l.net;
  within : l.done ≤ l.left;
  plan : l.net.plan ≡ l.fn.net.plan;
}
