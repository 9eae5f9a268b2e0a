use Rattle.std.proofs.Common.{◌≡◌, suc, drop, map}
use Rattle.pb_service.specs.Told.{number_from}
use Rattle.pb_accept.proofs.named.link_named.Given as goal

abbrev pub invariant-loop-index : goal.invariant-loop-index
invariant-loop-index l = number_from 1 (map (λ x. x.name) l.plan.links) l.name ≡ number_from (suc l.index)
    (map (λ x. x.name) (drop l.index l.plan.links)) l.name
