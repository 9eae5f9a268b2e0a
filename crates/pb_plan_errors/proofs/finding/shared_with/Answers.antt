use Rattle.std.proofs.Common.{◌∙◌, ap, Some}
use Rattle.toml.specs.View.{table_view}
use Rattle.pb_plan_errors.specs.Uses.{IsUse}
use Rattle.pb_plan_errors.proofs.Sharing.{shared_finding, all_contained}
use Rattle.pb_plan_errors.proofs.finding.shared_with.Goals as goal

pub returns-in-Some : goal.returns-in-Some
returns-in-Some c =
    let document = table_view c.args.document.now in
    let same = c.in-Some.ensures in
    let other = all_contained (IsUse document) c.args.earlier.now c.in-Some.other c.requires.earlier same.0 in (
      shared_finding document c.at_site.result c.args.of c.in-Some.other (c.at_site.ensures.about ∙ c.site.ensures)
          (c.at_site.ensures.other ∙ ap Some c.site-in-Some.ensures) c.requires.of other same.1 same.2,
      c.at_site.ensures.at,
    )
