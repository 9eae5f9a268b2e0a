use Rattle.std.proofs.Common.{◌≡◌, map, ap, subst, sym, ◌∙◌}
use Rattle.std.proofs.lemmas.Result.{IfOk-weaker}
use Rattle.pb_forest.specs.ServiceVids.{vid_numbered}
use Rattle.pb_cmd_survive.proofs.GroupLemmas.{AreMarks, groups_are}
use Rattle.pb_cmd_survive.specs.Failures.{is_out}
use Rattle.pb_cmd_survive.specs.Groups.{ports_of, is_port_out, color_of, site_of, AreGroups}
use Rattle.pb_cmd_survive.proofs.sites.groups.Goals as goal

pub returns : goal.returns
returns c =
    let plan = c.args.plan.now in
    let shape = c.args.shape.now in
    let vid = vid_numbered plan c.args.service in
    let out = is_out plan c.args.names.now c.args.failure in
    let color = color_of plan c.marks_by-marks.result out in
    let port_out = is_port_out plan out in
    let marks : AreMarks plan shape vid c.marks_by-marks.result =
    subst (λ v. AreMarks plan shape v c.marks_by-marks.result) c.vid_numbered.ensures
    (record { sound = c.requires; joined = c.marks_by-marks.ensures.joined; below = c.marks_by-marks.ensures.below }) in
    let ports : c.as_slice.result.now ≡ ports_of plan c.args.service = c.as_slice.ensures.value
    ∙ c.in_ok-ports.ensures in
    IfOk-weaker c.sites_of.result
    (λ sites. sites.items ≡ map (site_of color port_out c.as_slice.result.now) c.as_slice.result.now)
    (λ sites. AreGroups plan shape out c.args.service vid sites.items)
    (λ sites e. subst (λ z. AreGroups plan shape out c.args.service vid z)
    (sym (e ∙ ap (λ ps. map (site_of color port_out ps) ps) ports))
    (groups_are plan shape out c.args.service vid c.marks_by-marks.result marks))
    c.sites_of.ensures
