use Rattle.std.proofs.Common.{◌*◌}
use Rattle.pb_net.specs.Starts.{AreFreshLanes}
use Rattle.pb_net.proofs.start.fresh_lanes.Given as goal

abbrev pub invariant-loop-link : goal.invariant-loop-link
invariant-loop-link l = AreFreshLanes l.plan l.is_kept (2 * l.link-index) l.lanes.items
