use Rattle.std.proofs.Common.{refl, ◌+◌}
use Rattle.pb_forest.proofs.CertificateLemmas.{lead_next, lead_at, lead_all}
use Rattle.pb_forest.proofs.certificate.all_lead_up.Goals as goal

pub loop-i-preserved : goal.loop-i-preserved
loop-i-preserved c =
    lead_next c.args.plan.now c.args.shape.now c.args.vid c.args.ups.now c.as_slice-link-items.result.now c.loop-i.i
    c.link-item.result c.as_slice-link-items.ensures c.loop-i-test.true c.link-item.is
    (λ a. (c.requires (c.loop-i.i + 1)).0 (c.is_marked_if_active.ensures.0 c.if-not-is_marked_if_active.false a))
    c.loop-i.invariant

pub returns-then-not-is_marked_if_active : goal.returns-then-not-is_marked_if_active
returns-then-not-is_marked_if_active c = (
  (λ h. absurd cc),
  (λ all.
      let t = c.is_marked_if_active.ensures.1
      (λ a. (c.requires (c.loop-i.i + 1)).1
      (lead_at c.args.plan.now c.args.shape.now c.args.vid c.args.ups.now c.as_slice-link-items.result.now c.loop-i.i
      c.link-item.result c.as_slice-link-items.ensures c.loop-i-test.true c.link-item.is all a)) in
      cc),
)

pub returns : goal.returns
returns c = (
  (λ h. lead_all c.args.plan.now c.args.shape.now c.args.vid c.args.ups.now c.as_slice-link-items.result.now
      c.loop-i.i c.as_slice-link-items.ensures c.loop-i-test.false c.loop-i.invariant),
  (λ h. refl),
)
