use Rattle.std.proofs.Common.{◌≡◌, rules, subst}
use Rattle.pb_lan.specs.Shapes.{is_active}
use Rattle.pb_cmd_survive.proofs.JoinLemmas.{tells_active}
use Rattle.pb_cmd_survive.proofs.sites.marks_by.Goals as goal

pub returns-clause-joined : goal.returns-clause-joined
returns-clause-joined c =
    let plan = c.args.plan.now in
    let shape = c.args.shape.now in
    let vid = c.args.vid in
    tells_active plan shape vid c.marks.result
    (c.marks.ensures.joined (is_active plan shape vid)
    (λ link yes h. let met = h.says.met in subst (λ l. yes ≡ is_active plan shape vid l) h.shows (search rules)))
