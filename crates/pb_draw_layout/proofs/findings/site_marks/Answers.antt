use Rattle.std.proofs.Common.{◌≡◌, rules, subst}
use Rattle.pb_lan.specs.Shapes.{is_active}
use Rattle.pb_draw_layout.proofs.findings.site_marks.Goals as goal

pub returns : goal.returns
returns c =
    c.marks.ensures.joined (is_active c.args.plan.now c.args.shape.now c.args.vid)
    (λ link yes h. let met = h.says.met in subst (λ l. yes ≡ is_active c.args.plan.now c.args.shape.now c.args.vid l)
    h.shows (search rules))
