use Rattle.std.proofs.Common.{◌≡◌, rules, subst}
use Rattle.pb_warnings.specs.Links.{passes}
use Rattle.pb_warnings.proofs.links.marks_by.Goals as goal

pub returns : goal.returns
returns c =
    c.marks.ensures.joined (passes c.args.links)
    (λ link yes h. let met = h.says.met in subst (λ l. yes ≡ passes c.args.links l) h.shows (search rules))
