use Rattle.std.proofs.Common.{arith, sym, ◌∙◌, refl}
use Rattle.pb_frame.specs.Admission.{same}
use Rattle.pb_lan.proofs.Distinctness.{distinct_rest, not_distinct, distinct_end}
use Rattle.pb_lan.proofs.sound.distinct.names_differ.Goals as goal

pub returns-then-has_name : goal.returns-then-has_name
returns-then-has_name g c =
    let broken = not_distinct same g.T.Named.name_of c.loop-rest.rest.now c.first-item.result c.name.result.now
    (omega (arith, c.in-len1-up.len_at_least)) c.first-item.is c.name.ensures
    (sym c.has_name.ensures ∙ c.if-has_name.true) in
    ((λ h. absurd cc), (λ d. absurd (broken (c.loop-rest.invariant.0 d))))

pub loop-rest-preserved : goal.loop-rest-preserved
loop-rest-preserved g c =
    let step = distinct_rest same g.T.Named.name_of c.loop-rest.rest.now c.first-item.result c.name.result.now
    (omega (arith, c.in-len1-up.len_at_least)) c.first-item.is c.name.ensures
    (sym c.has_name.ensures ∙ c.if-has_name.false) in
    ((λ d. step.0 (c.loop-rest.invariant.0 d)), (λ d. c.loop-rest.invariant.1 (step.1 d)))

pub returns : goal.returns
returns g c = (
  (λ h. c.loop-rest.invariant.1 (distinct_end same g.T.Named.name_of _ c.in_default.len_below)),
  (λ d. refl),
)
