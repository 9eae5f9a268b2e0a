use Rattle.std.proofs.Common.{◌+◌, [], string_bytes, arith, refl, subst, sym, append-nil}
use Rattle.std.proofs.lemmas.Result.{err_from_is_err_and}
use Rattle.pb_converge.proofs.DriveLemmas.{done-plan}
use Rattle.pb_converge.proofs.FallLemmas.{fallen_from}
use Rattle.pb_converge.proofs.FewLemmas.{few-downs, few-lower}
use Rattle.pb_converge.proofs.LimitLemmas.{caused-broken, caused-later, caused-lower}
use Rattle.pb_converge.specs.Drives.{AreFew, HasBroken, IsCaused}
use Rattle.pb_converge.specs.Falls.{down_count, downs, fresh}
use Rattle.pb_cmd_draw.proofs.draw.put_fallen.Goals as goal

pub put_converged-requires-clause-plan : goal.put_converged-requires-clause-plan
put_converged-requires-clause-plan c =
    let fallen = rw c.in-None.is at c.in_ok-fault.ensures.falls in
    done-plan (fresh c.args.plan.now) c.disables.new.net (downs c.args.plan.now c.args.asked.now.downs.now)
    (fallen_from c.args.plan.now c.args.asked.now.downs.now c.disables.new.net c.in_ok-net.ensures
    c.in_ok-fault.ensures.kept fallen)

pub returns-in_err-fault-clause-err : goal.returns-in_err-fault-clause-err
returns-in_err-fault-clause-err c =
    let p = err_from_is_err_and c.from_residual-in_err-fault.result c.from_residual-in_err-fault.ensures.1 in
    let plan = c.args.plan.now in
    let new = c.disables.new.net in
    let fault = c.in_err-fault.field-0.0 in
    let names = c.args.asked.now.downs.now in
    let due = downs plan names in
    let ticks = c.args.asked.now.ticks in
    let count = down_count plan names in
    let b = subst (λ net. HasBroken due fault net new) c.in_ok-net.ensures c.in_err-fault.ensures.err in
    let few : AreFew ticks 0 count due = few-lower due (omega arith) (omega arith) (omega arith)
    (few-downs plan names) in
    let caused = caused-broken 1000000000 due fault (fresh plan) new few c.in_err-fault.ensures.enough b in
    rw p.1 (subst (λ e. IsCaused ticks 0 count 1000000000 e (fresh plan)) (sym p.2) caused)

pub returns-in_err-convergence-in-None-clause-err : goal.returns-in_err-convergence-in-None-clause-err
returns-in_err-convergence-in-None-clause-err c =
    let p = err_from_is_err_and c.from_residual-in_err-convergence-in-None.result
    c.from_residual-in_err-convergence-in-None.ensures.1 in
    let plan = c.args.plan.now in
    let fallen = rw c.in-None.is at c.in_ok-fault.ensures.falls in
    let done = fallen_from plan c.args.asked.now.downs.now c.disables.new.net c.in_ok-net.ensures
    c.in_ok-fault.ensures.kept fallen in
    let fault = c.in_err-convergence-in-None.field-0.0 in
    let names = c.args.asked.now.downs.now in
    let ticks = c.args.asked.now.ticks in
    let count = down_count plan names in
    let later = caused-later ticks 0 0 1000000000 fault (downs plan names) (fresh plan) c.disables.new.net
    (few-downs plan names) done c.in_err-convergence-in-None.ensures.err in
    let caused : IsCaused ticks 0 count 1000000000 fault (fresh plan) =
    caused-lower (0 + ticks) 0 (count + 0) ticks 0 count 1000000000 1000000000 fault (fresh plan) (omega arith)
    (omega arith) (omega arith) (omega arith) later in
    rw p.1 (subst (λ e. IsCaused ticks 0 count 1000000000 e (fresh plan)) (sym p.2) caused)

pub returns-in-Some-clause-ok : goal.returns-in-Some-clause-ok
returns-in-Some-clause-ok c = (
  [],
  sym (append-nil (string_bytes c.args.out.now)),
  (rw c.in-Some.is at c.in_ok-fault.ensures.falls, refl),
)

pub returns-in_ok-convergence-in-None-clause-ok : goal.returns-in_ok-convergence-in-None-clause-ok
returns-in_ok-convergence-in-None-clause-ok c =
    let t = c.in_ok-convergence-in-None.ensures.ok in (
      t.0,
      t.1,
      record {
        found = c.requires.found;
        fallen = c.disables.new.net;
        falls = rw c.in-None.is at
            c.in_ok-fault.ensures.falls;
        drawing = t.2;
      },
    )
