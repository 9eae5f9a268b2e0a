use Rattle.std.proofs.Common.{◌≡◌, flat_map, map, take}
use Rattle.pb_converge.specs.Drives.{HaveDone}
use Rattle.pb_converge.specs.Falls.{ends_down, set_down}
use Rattle.pb_converge.proofs.falling.fall_named.Given as goal

abbrev pub invariant-loop-link : goal.invariant-loop-link
invariant-loop-link l =
    (l.net.plan ≡ l.plan)
    × HaveDone l.initial.net (map set_down (flat_map (ends_down l.plan l.name) (take l.link-index l.plan.links))) l.net
