use Rattle.std.proofs.Common.{◌≡◌, rules, subst}
use Rattle.pb_draw_layout.specs.Paths.{is_other}
use Rattle.pb_draw_layout.proofs.findings.other_marks.Goals as goal

pub returns : goal.returns
returns c =
    c.marks.ensures.joined (is_other c.args.plan.now c.args.shape.now c.args.vid c.args.link.now)
    (λ link yes h. let met = h.says.met in subst
    (λ l. yes ≡ is_other c.args.plan.now c.args.shape.now c.args.vid c.args.link.now l) h.shows (search rules))
