use Rattle.std.proofs.Common.{◌≡◌, suc, drop, map}
use Rattle.pb_service.specs.Told.{number_from}
use Rattle.pb_service.proofs.told.number_of.Given as goal

abbrev pub invariant-loop-index : goal.invariant-loop-index
invariant-loop-index l = number_from 1 (map (λ n. n.now) l.names) l.name ≡ number_from (suc l.index)
    (map (λ n. n.now) (drop l.index l.names)) l.name
