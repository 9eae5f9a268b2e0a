use Rattle.std.proofs.Common.{◌≡◌, drop}
use Rattle.pb_frame.specs.Lists.{first}
use Rattle.pb_names.specs.Places.{has_end}
use Rattle.pb_names.proofs.places.link_at.Given as goal

abbrev pub invariant-loop-link : goal.invariant-loop-link
invariant-loop-link l =
    first (has_end l.bridge l.port) (drop l.link-index l.plan.links) ≡ first (has_end l.bridge l.port) l.plan.links
