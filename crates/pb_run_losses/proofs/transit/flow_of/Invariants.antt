use Rattle.std.proofs.Common.{◌≡◌, ◌≤◌, ◌*◌, ◌^◌, take}
use Rattle.pb_forest.specs.Draining.{gains, losses}
use Rattle.pb_run_losses.proofs.transit.flow_of.Given as goal

abbrev pub invariant-loop-tally : goal.invariant-loop-tally
invariant-loop-tally l =
    (l.flow.gained ≡ gains (take l.tally-index l.places)) × (l.flow.parted ≡ losses (take l.tally-index l.places))
    × (l.flow.gained ≤ 16 * 2 ^ 64 * l.tally-index) × (l.flow.parted ≤ 16 * 2 ^ 64 * l.tally-index)
