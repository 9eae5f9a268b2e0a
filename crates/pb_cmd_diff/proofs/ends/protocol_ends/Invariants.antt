use Rattle.std.proofs.Common.{◌≡◌, ◌++◌, drop, map}
use Rattle.pb_cmd_diff.specs.Ends.{protocol_link}
use Rattle.pb_cmd_diff.proofs.ends.protocol_ends.Given as goal

abbrev pub invariant-loop-link : goal.invariant-loop-link
invariant-loop-link l =
    l.ends.items ++ map (protocol_link l.plan l.net.rec) (drop l.link-index l.plan.links)
    ≡ map (protocol_link l.plan l.net.rec) l.plan.links
