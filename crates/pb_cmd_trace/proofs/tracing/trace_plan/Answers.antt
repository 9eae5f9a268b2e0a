use Rattle.std.proofs.Common.{◌+◌, true, arith, length, unwrap_or, subst, sym, ap, ◌∙◌}
use Rattle.std.proofs.lemmas.Result.{err_from_is_err_and, IfErr-weaker, IfOk-weaker}
use Rattle.pb_converge.proofs.DriveLemmas.{done-plan}
use Rattle.pb_converge.proofs.FallLemmas.{fallen_from}
use Rattle.pb_converge.proofs.FewLemmas.{few-downs, few-lower}
use Rattle.pb_converge.proofs.LimitLemmas.{caused-broken, caused-later, caused-lower}
use Rattle.pb_converge.specs.Drives.{AreFew, HasBroken}
use Rattle.pb_converge.specs.Falls.{down_count, downs, fresh_by}
use Rattle.pb_cmd_trace.proofs.StoryLemmas.{fallen_trace}
use Rattle.pb_cmd_trace.specs.Tracings.{IsTracingFault}
use Rattle.pb_cmd_trace.proofs.tracing.trace_plan.Goals as goal

pub follow_all-requires-clause-plan : goal.follow_all-requires-clause-plan
follow_all-requires-clause-plan c =
    let fallen = rw c.in-None.is at c.in_ok-fault.ensures.falls in
    done-plan (fresh_by true c.args.plan.now) c.disables.new.net (downs c.args.plan.now c.args.asked.now.downs.now)
    (fallen_from c.args.plan.now c.args.asked.now.downs.now c.disables.new.net c.in_ok-net.ensures
    c.in_ok-fault.ensures.kept fallen)

pub returns-in-Some-clause-ok : goal.returns-in-Some-clause-ok
returns-in-Some-clause-ok c = rw c.in-Some.is at c.in_ok-fault.ensures.falls

pub returns-in-None-clause-ok : goal.returns-in-None-clause-ok
returns-in-None-clause-ok c =
    let fallen = rw c.in-None.is at c.in_ok-fault.ensures.falls in
    IfOk-weaker c.follow_all.result _ _
    (λ end t. fallen_trace c.args.plan.now c.args.asked.now end c.disables.new.net fallen t) c.follow_all.ensures.ok

pub returns-in_err-fault-clause-err : goal.returns-in_err-fault-clause-err
returns-in_err-fault-clause-err c =
    let p = err_from_is_err_and c.from_residual-in_err-fault.result c.from_residual-in_err-fault.ensures.1 in
    let plan = c.args.plan.now in
    let new = c.disables.new.net in
    let fault = c.in_err-fault.field-0.0 in
    let asked = c.args.asked.now in
    let due = downs plan asked.downs.now in
    let ticks = unwrap_or asked.settle 0 in
    let polls = length asked.entries.now in
    let b = subst (λ net. HasBroken due fault net new) c.in_ok-net.ensures c.in_err-fault.ensures.err in
    let few : AreFew ticks polls (down_count plan asked.downs.now) due =
    few-lower due (omega arith) (omega arith) (omega arith) (few-downs plan asked.downs.now) in
    let caused = caused-broken 1000000 due fault (fresh_by true plan) new few c.in_err-fault.ensures.enough b in
    rw p.1 (subst (IsTracingFault plan asked) (sym p.2) caused)

pub returns-in-None-clause-err : goal.returns-in-None-clause-err
returns-in-None-clause-err c =
    let plan = c.args.plan.now in
    let fallen = rw c.in-None.is at c.in_ok-fault.ensures.falls in
    let done = fallen_from plan c.args.asked.now.downs.now c.disables.new.net c.in_ok-net.ensures
    c.in_ok-fault.ensures.kept fallen in
    let asked = c.args.asked.now in
    let names = asked.downs.now in
    let start = fresh_by true plan in
    let ticks = unwrap_or asked.settle 0 in
    let polls = length asked.entries.now in
    let count = down_count plan names in
    IfErr-weaker c.follow_all.result _ (IsTracingFault plan asked)
    (λ fault h. caused-lower (0 + ticks) (0 + polls) (count + 0) ticks polls count 1000000 1000000 fault start
    (omega arith) (omega arith) (omega arith) (omega arith)
    (caused-later ticks polls 0 1000000 fault (downs plan names) start c.disables.new.net (few-downs plan names) done
    h))
    c.follow_all.ensures.err

pub follow_all-requires-clause-kept : goal.follow_all-requires-clause-kept
follow_all-requires-clause-kept c = c.in_ok-fault.ensures.kept ∙ ap (λ n. n.is_kept) c.in_ok-net.ensures
