use Rattle.std.proofs.Common.{◌∙◌, sym, subst, ap, arith}
use Rattle.std.proofs.lemmas.Bool.{lt-ltb, ltb-true}
use Rattle.pb_lan.specs.Plans.{IsNumber}
use Rattle.pb_warnings.proofs.RuleLemmas.{far_above, far_from, far_joined, far_numbers}
use Rattle.pb_warnings.specs.Hops.{TellsWithin}
use Rattle.pb_joins.specs.Joins.{mark_at}
use Rattle.pb_warnings.proofs.rules.is_too_far.Goals as goal

pub returns-then-not-have_tree : goal.returns-then-not-have_tree
returns-then-not-have_tree c = (
  λ h. cc,
  λ far.
      let (in_bridge, in_root) = far_numbers c.args.plan.now c.args.bridge c.requires far in
      sym c.if-not-have_tree.true
      ∙ c.have_tree.ensures.1
      (far.rstp, subst (λ r. IsNumber r 32) (sym c.root_of-root.ensures) in_root, in_bridge),
)

pub returns-then-mark_at : goal.returns-then-mark_at
returns-then-mark_at c = (
  λ h. cc,
  λ far. absurd (c.if-mark_at.true
      (c.mark_at.ensures ∙ ap (mark_at c.marks_by-marks.result) c.root_of-root.ensures
      ∙ far_joined c.args.plan.now c.args.bridge c.marks_by-marks.result c.requires c.marks_by-marks.ensures far
      ∙ sym c.mark_at-2.ensures)),
)

pub returns : goal.returns
returns c =
    let plan = c.args.plan.now in
    let reaches = subst (λ r. TellsWithin plan r 20 c.hops.result) c.root_of-root.ensures c.hops.ensures in (
      λ h.
          let (rstp, in_root, in_bridge) = c.have_tree.ensures.0 c.if-not-have_tree.false in
          far_from plan c.args.bridge c.marks_by-marks.result c.hops.result rstp in_bridge
          (subst (λ r. IsNumber r 32) c.root_of-root.ensures in_root) c.marks_by-marks.ensures reaches
          (ap (mark_at c.marks_by-marks.result) (sym c.root_of-root.ensures) ∙ sym c.mark_at.ensures
          ∙ c.if-mark_at.false ∙ c.mark_at-2.ensures)
          (let above = ltb-true 20 c.mark_at-3.result h in omega (arith, above, c.mark_at-3.ensures)),
      λ far. lt-ltb 20 c.mark_at-3.result
          (let above = far_above plan c.args.bridge c.hops.result c.requires reaches far in
          omega (arith, above, c.mark_at-3.ensures)),
    )
