use Rattle.std.proofs.Common.{◌≡◌, drop}
use Rattle.pb_service.specs.Keys.{is_known, names_of, rules_of}
use Rattle.pb_service.proofs.row.is_known.Given as goal

abbrev pub invariant-loop-k : goal.invariant-loop-k
invariant-loop-k l = is_known (names_of (rules_of l.known)) l.key ≡ is_known
    (names_of (rules_of (drop l.k-index l.known))) l.key
