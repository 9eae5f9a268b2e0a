use Rattle.std.proofs.Common.{◌∷◌, []}
use Rattle.std.proofs.lemmas.Result.{IfErr-weaker, IfOk-weaker}
use Rattle.pb_converge.proofs.LimitLemmas.{caused-later}
use Rattle.pb_cmd_trace.proofs.DoneLemmas.{walked-run}
use Rattle.pb_cmd_trace.proofs.StoryLemmas.{follow_joined}
use Rattle.pb_cmd_trace.specs.declared.onward.Onward.TheVariants.{Feed}
use Rattle.pb_cmd_trace.proofs.frame.follow.Goals as goal

pub returns-clause-ok : goal.returns-clause-ok
returns-clause-ok c =
    let e = c.in_ok-number.ensures in
    let w = c.in_ok-course.ensures.ok in
    IfOk-weaker c.conclude.result _ _ (λ fate f. follow_joined c.args.plan.now c.args.port c.in_ok-number.number
    c.args.net.now c.walk.new.net c.conclude.new.net c.in_ok-course.course fate e.0 w.0 f.0
    c.args.lines.now.items c.tell_entry.new.lines.items c.walk.new.lines.items
    c.conclude.new.lines.items e.2 w.2 f.2 e.1 w.1 f.1)
    c.conclude.ensures.ok

pub returns-clause-err : goal.returns-clause-err
returns-clause-err c =
    let old = c.args.net.now in
    let mid = c.walk.new.net in
    let w = c.in_ok-course.ensures.ok in
    let run = walked-run c.args.plan.now (Feed c.args.port ∷ []) c.in_ok-course.course old mid w.0 w.2 in
    IfErr-weaker c.conclude.result _ _ (λ fault h. caused-later 0 0 0 1000000 fault run.0 old mid run.2 run.1 h)
    c.conclude.ensures.err
