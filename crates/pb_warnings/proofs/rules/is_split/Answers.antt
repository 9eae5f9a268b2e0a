use Rattle.std.proofs.Common.{sym, ◌∙◌}
use Rattle.pb_warnings.proofs.RuleLemmas.{split_from, split_to}
use Rattle.pb_warnings.proofs.rules.is_split.Goals as goal

pub returns : goal.returns
returns c =
    let plan = c.args.plan.now in (
      λ h. split_from plan c.args.service c.marks_by.result c.requires c.marks_by.ensures (sym c.are_apart.ensures ∙ h),
      λ s. c.are_apart.ensures ∙ split_to plan c.args.service c.marks_by.result c.requires c.marks_by.ensures s,
    )
