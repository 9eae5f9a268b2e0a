use Rattle.std.proofs.Common.{◌≡◌, rules, subst}
use Rattle.pb_lan.specs.Shapes.{are_ends_forwarding}
use Rattle.pb_draw_layout.proofs.findings.tree_marks.Goals as goal

pub returns : goal.returns
returns c =
    c.marks.ensures.joined (are_ends_forwarding c.args.shape.now)
    (λ link yes h. let met = h.says.met in subst (λ l. yes ≡ are_ends_forwarding c.args.shape.now l) h.shows
    (search rules))
