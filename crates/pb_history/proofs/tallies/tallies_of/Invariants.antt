use Rattle.std.proofs.Common.{◌≡◌, take}
use Rattle.pb_history.proofs.tallies.tallies_of.Given as goal

abbrev pub invariant-loop-steps : goal.invariant-loop-steps
invariant-loop-steps l = l.tallies.items ≡ take l.steps-index l.places
