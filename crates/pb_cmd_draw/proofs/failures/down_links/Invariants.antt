use Rattle.std.proofs.Common.{◌≡◌, ◌++◌, drop, map}
use Rattle.pb_cmd_draw.specs.Failures.{down_ends}
use Rattle.pb_cmd_draw.proofs.failures.down_links.Given as goal

abbrev pub invariant-loop-link : goal.invariant-loop-link
invariant-loop-link l =
    l.down.items ++ map (down_ends l.plan l.names) (drop l.link-index l.plan.links)
    ≡ map (down_ends l.plan l.names) l.plan.links
