use Rattle.std.proofs.Common.{◌≡◌, map}
use Rattle.pb_net.proofs.tallying.bridge_tallies.Given as goal

abbrev pub invariant-loop-bridge : goal.invariant-loop-bridge
invariant-loop-bridge l = l.tallies.items ≡ map (λ b. b.steps) l.yielded
