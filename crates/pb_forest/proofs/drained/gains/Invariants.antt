use Rattle.std.proofs.Common.{◌≡◌, ◌≤◌, ◌*◌, ◌^◌, take}
use Rattle.pb_forest.specs.Draining.{gains}
use Rattle.pb_forest.proofs.drained.gains.Given as goal

abbrev pub invariant-loop-tally : goal.invariant-loop-tally
invariant-loop-tally l = (l.sum ≡ gains (take l.tally-index l.places)) × (l.sum ≤ 16 * 2 ^ 64 * l.tally-index)
