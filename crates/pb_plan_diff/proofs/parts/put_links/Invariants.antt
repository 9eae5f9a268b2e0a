use Rattle.std.proofs.Common.{◌≡◌, ◌++◌, drop, map}
use Rattle.pb_plan_diff.specs.Parts.{link_part}
use Rattle.pb_plan_diff.proofs.parts.put_links.Given as goal

abbrev pub invariant-loop-link : goal.invariant-loop-link
invariant-loop-link l =
    l.parts.items ++ map (link_part l.names l.plan) (drop l.link-index l.plan.links) ≡ l.initial.parts.items
    ++ map (link_part l.names l.plan) l.plan.links
