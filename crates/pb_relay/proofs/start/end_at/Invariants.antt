use Rattle.std.proofs.Common.{◌≡◌, drop, flat_map}
use Rattle.pb_frame.specs.Lists.{first}
use Rattle.pb_lan.specs.Ports.{is_end_at, ends_of}
use Rattle.pb_relay.proofs.start.end_at.Given as goal

abbrev pub invariant-loop-link : goal.invariant-loop-link
invariant-loop-link l = first (is_end_at l.bridge l.port) (flat_map ends_of (drop l.link-index l.links)) ≡ first
    (is_end_at l.bridge l.port) (flat_map ends_of l.links)
