use Rattle.std.proofs.Common.{◌∙◌, ap, subst, sym}
use Rattle.pb_joins.specs.Joins.{TellsJoined}
use Rattle.pb_lan.specs.Shapes.{is_active}
use Rattle.pb_draw_layout.specs.Paths.{is_other, sites_at, needed_sites}
use Rattle.pb_draw_layout.proofs.PathLemmas.{path_iff}
use Rattle.pb_draw_layout.proofs.findings.is_between.Goals as goal

pub returns : goal.returns
returns c =
    let plan = c.args.plan.now in
    let shape = c.args.shape.now in
    let service = c.args.service in
    let link = c.args.link.now in
    let marks = c.other_marks-marks.result in
    let vid_is = c.vid_numbered-vid.ensures in
    let tells = subst (λ vid. TellsJoined plan (is_other plan shape vid link) marks) vid_is
    c.other_marks-marks.ensures in
    let active = c.is_active-active.ensures ∙ ap (λ vid. is_active plan shape vid link) vid_is in
    let a = c.sites_at-a.ensures ∙ ap (sites_at plan marks service) c.mark_at-a_mark.ensures in
    let b = c.sites_at-b.ensures ∙ ap (sites_at plan marks service) c.mark_at-b_mark.ensures in
    let needed = c.needed_sites-needed.ensures
    ∙ ap (λ m. needed_sites m c.mark_at-b_mark.result) c.mark_at-a_mark.ensures
    ∙ ap (needed_sites _) c.mark_at-b_mark.ensures in
    let both = path_iff plan shape service link marks _ _ _ _ c.requires.sound c.requires.a c.requires.b tells active
    a b needed in
    (λ h. both.0 (sym c.are_all.ensures ∙ h), λ p. c.are_all.ensures ∙ both.1 p)
