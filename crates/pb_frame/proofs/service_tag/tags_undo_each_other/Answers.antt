use Rattle.std.proofs.Common.{arith}
use Rattle.pb_frame.proofs.TagLaws.{tagged-inj, parts-of-control, untagged-tagged}
use Rattle.pb_frame.proofs.service_tag.tags_undo_each_other.Goals as goal

pub returns-clause-control : goal.returns-clause-control
returns-clause-control c = λ x y p d v q e w hx hy same. tagged-inj x y p d v q e w (omega arith) (omega arith) same

pub returns-clause-parts : goal.returns-clause-parts
returns-clause-parts c = λ x y p d v q e w hx hy here there same.
    let both = tagged-inj x y p d v q e w (omega arith) (omega arith) same in
    let parts = parts-of-control p d v q e w here there both.1 in
    (both.0, parts.0, parts.1, parts.2)

pub returns-clause-off : goal.returns-clause-off
returns-clause-off c = λ x p d v h. untagged-tagged x p d v (omega arith)
