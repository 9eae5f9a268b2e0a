use Rattle.std.proofs.Common.{◌≡◌, drop, map, string_bytes}
use Rattle.pb_converge.specs.Suggestions.{first_within}
use Rattle.pb_converge.proofs.suggesting.first_within.Given as goal

abbrev pub invariant-loop-name : goal.invariant-loop-name
invariant-loop-name l =
    first_within l.limit l.text (map string_bytes (drop l.name-index l.names))
    ≡ first_within l.limit l.text (map string_bytes l.names)
