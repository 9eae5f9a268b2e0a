use Rattle.std.proofs.Common.{◌*◌}
use Rattle.pb_net.specs.Starts.{AreLaneSlots}
use Rattle.pb_net.proofs.start.lane_slots.Given as goal

abbrev pub invariant-loop-link : goal.invariant-loop-link
invariant-loop-link l = AreLaneSlots l.plan (2 * l.link-index) l.slots.items
