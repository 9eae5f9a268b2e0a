use Rattle.std.proofs.Common.{◌≡◌, ◌++◌, drop, map}
use Rattle.pb_cmd_diff.specs.Ends.{given_link}
use Rattle.pb_cmd_diff.proofs.ends.given_ends.Given as goal

abbrev pub invariant-loop-link : goal.invariant-loop-link
invariant-loop-link l =
    l.ends.items ++ map (given_link l.shape) (drop l.link-index l.plan.links) ≡ map (given_link l.shape) l.plan.links
