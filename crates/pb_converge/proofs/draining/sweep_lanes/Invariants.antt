use Rattle.std.proofs.Common.{◌≡◌, ◌≤◌}
use Rattle.pb_converge.specs.Sweeps.{HaveTried, IsAtOneOf, IsAtLane}
use Rattle.pb_converge.proofs.draining.sweep_lanes.Given as goal

abbrev pub invariant-loop-place : goal.invariant-loop-place
invariant-loop-place l = record {
  tried : HaveTried (IsAtOneOf IsAtLane l.place) l.done l.fn.net l.net;
  within : l.done ≤ l.left;
  plan : l.net.plan ≡ l.fn.net.plan;
}
