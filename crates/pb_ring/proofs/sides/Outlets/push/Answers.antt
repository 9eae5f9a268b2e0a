use Rattle.std.proofs.Common.{rules, ap, ◌∙◌}
use Rattle.std.proofs.Math.Seq.{map-set_same}
use Rattle.rtrb.specs.Ring.{sent}
use Rattle.pb_ring.proofs.Places.{grows_at}
use Rattle.pb_ring.proofs.sides.Outlets.push.Goals as goal

pub returns-clause-sent : goal.returns-clause-sent
returns-clause-sent g c = λ p. grows_at (λ o. sent o.end) _ _ c.index_mut.result.now _ _ p (search rules)
    c.index_mut.ensures.value c.push.ensures.sent

pub returns-clause-numbers : goal.returns-clause-numbers
returns-clause-numbers g c = map-set_same (λ o. o.number) _ _ _ c.index_mut.result.now
    (c.push.ensures.number ∙ ap (λ o. o.number) c.index_mut.ensures.value)
