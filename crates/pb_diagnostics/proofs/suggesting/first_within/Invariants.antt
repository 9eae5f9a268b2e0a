use Rattle.std.proofs.Common.{◌≡◌, drop, map}
use Rattle.pb_diagnostics.specs.Nearest.{first_within}
use Rattle.pb_diagnostics.proofs.suggesting.first_within.Given as goal

-- no earlier name is near
abbrev pub invariant-loop-name : goal.invariant-loop-name
invariant-loop-name l =
    first_within l.limit l.text (map (λ n. n.now) (drop l.name-index l.names))
    ≡ first_within l.limit l.text (map (λ n. n.now) l.names)
