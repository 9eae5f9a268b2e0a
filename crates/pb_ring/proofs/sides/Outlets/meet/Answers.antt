use Rattle.std.proofs.Common.{ap, ◌∙◌}
use Rattle.std.proofs.Math.Seq.{map-set_same}
use Rattle.rtrb.specs.Ring.{sent}
use Rattle.pb_ring.proofs.sides.Outlets.meet.Goals as goal

pub returns-clause-sent : goal.returns-clause-sent
returns-clause-sent g c = map-set_same (λ o. sent o.end) _ _ _ c.index_mut.result.now
    (c.meet.ensures.sent ∙ ap (λ o. sent o.end) c.index_mut.ensures.value)

pub returns-clause-numbers : goal.returns-clause-numbers
returns-clause-numbers g c = map-set_same (λ o. o.number) _ _ _ c.index_mut.result.now
    (c.meet.ensures.numbers.1 ∙ ap (λ o. o.number) c.index_mut.ensures.value)
