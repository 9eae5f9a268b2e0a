use Rattle.std.proofs.Common.{◌≡◌, drop, map}
use Rattle.pb_service.specs.Tables.{is_one_of}
use Rattle.pb_service.proofs.check.is_one_of.Given as goal

abbrev pub invariant-loop-other : goal.invariant-loop-other
invariant-loop-other l = is_one_of (map (λ n. n.now) l.names) l.name ≡ is_one_of
    (map (λ n. n.now) (drop l.other-index l.names)) l.name
