use Rattle.std.proofs.Common.{◌≡◌, map}
use Rattle.pb_net.proofs.tallying.lane_tallies.Given as goal

abbrev pub invariant-loop-lane : goal.invariant-loop-lane
invariant-loop-lane l = l.tallies.items ≡ map (λ m. m.steps) l.yielded
