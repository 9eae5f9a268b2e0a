use Rattle.std.proofs.Common.{◌∙◌, ap, refl, subst}
use Rattle.pb_forest.specs.ServiceVids.{vid_numbered}
use Rattle.pb_joins.specs.Joins.{TellsJoined}
use Rattle.pb_lan.specs.Shapes.{is_active}
use Rattle.pb_draw_layout.specs.Paths.{AreLit}
use Rattle.pb_draw_layout.proofs.findings.found_in.Goals as goal

pub returns : goal.returns
returns c =
    let plan = c.args.plan.now in
    let shape = c.args.shape.now in
    let service = c.service_of-service.ensures in
    let vid = c.vid_numbered.ensures ∙ ap (vid_numbered plan) service in
    record {
      chosen_is = refl;
      trees = c.tree_marks.ensures;
      sites = subst (λ v. TellsJoined plan (is_active plan shape v) c.site_marks.result) vid c.site_marks.ensures;
      lit = subst (λ s. AreLit plan shape s c.in_ok-lit.lit) service c.in_ok-lit.ensures;
    }
