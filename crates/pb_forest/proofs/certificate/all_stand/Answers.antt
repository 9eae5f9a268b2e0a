use Rattle.std.proofs.Common.{refl}
use Rattle.pb_forest.proofs.CertificateLemmas.{stand_next, stand_fails, stand_all}
use Rattle.pb_forest.proofs.certificate.all_stand.Goals as goal

pub loop-i-preserved : goal.loop-i-preserved
loop-i-preserved c =
    stand_next c.args.plan.now c.args.shape.now c.args.vid c.args.rooted.now c.as_slice-up-items.result.now c.loop-i.i
    c.as_slice-up-items.ensures c.loop-i-test.true
    (c.stands.ensures.0 c.if-not-stands.false) c.loop-i.invariant

pub returns-then-not-stands : goal.returns-then-not-stands
returns-then-not-stands c = (
  (λ h. absurd cc),
  (λ all.
      let t = c.stands.ensures.1 (stand_fails c.args.plan.now c.args.shape.now c.args.vid c.args.rooted.now
      c.as_slice-up-items.result.now c.loop-i.i c.as_slice-up-items.ensures c.loop-i-test.true all) in
      cc),
)

pub returns : goal.returns
returns c = (
  (λ h. stand_all c.args.plan.now c.args.shape.now c.args.vid c.args.rooted.now c.as_slice-up-items.result.now
      c.loop-i.i c.as_slice-up-items.ensures c.loop-i-test.false c.loop-i.invariant),
  (λ h. refl),
)
