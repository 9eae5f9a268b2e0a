use Rattle.std.proofs.Common.{ap, ◌∙◌}
use Rattle.std.proofs.Math.Seq.{map-set_same}
use Rattle.rtrb.specs.Ring.{received}
use Rattle.pb_ring.proofs.sides.Inlets.meet.Goals as goal

pub returns-clause-received : goal.returns-clause-received
returns-clause-received g c = map-set_same (λ i. received i.end) _ _ _ c.index_mut.result.now
    (c.meet.ensures.received ∙ ap (λ i. received i.end) c.index_mut.ensures.value)

pub returns-clause-numbers : goal.returns-clause-numbers
returns-clause-numbers g c = map-set_same (λ i. i.number) _ _ _ c.index_mut.result.now
    (c.meet.ensures.numbers.0 ∙ ap (λ i. i.number) c.index_mut.ensures.value)
