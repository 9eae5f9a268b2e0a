use Rattle.std.proofs.Common.{◌≡◌, arith, subst, sym, ◌∙◌}
use Rattle.std.proofs.lemmas.Result.{err_from_is_err_and}
use Rattle.pb_converge.proofs.LimitLemmas.{caused-later}
use Rattle.pb_converge.specs.Drives.{IsCaused}
use Rattle.pb_cmd_trace.specs.Walks.{GoesOn}
use Rattle.pb_cmd_trace.proofs.DoneLemmas.{walks-run}
use Rattle.pb_cmd_trace.proofs.WalkLemmas.{walks-more, walked-round}
use Rattle.pb_converge.proofs.DriveLemmas.{done-kept}
use Rattle.pb_cmd_trace.proofs.walk.walk_on.Goals as goal

pub loop-preserved : goal.loop-preserved
loop-preserved c =
    let before = c.loop.invariant in
    let plan = c.args.plan.now in
    let lines = c.go_on.new.lines.items in
    let went = subst (λ b. GoesOn b plan c.in-Some.onward c.loop.net c.go_on.new.net c.pop.new.self.items
    c.go_on.new.todo.items c.loop.lines.items lines) c.if-not-branch.false c.in_ok-go_on.ensures.ok in
    record {
      walked = walks-more c.loop.counter plan c.args.todo.now.items c.args.net.now c.loop.net c.go_on.new.net
          c.loop.todo.items c.pop.new.self.items c.in-Some.onward c.go_on.new.todo.items
          c.args.lines.now.items before.walked.0 c.loop.lines.items lines c.in-Some.ensures.items
          before.walked.2 before.walked.1 went;
      plan = c.in_ok-go_on.ensures.plan;
    }

pub returns-clause-ok : goal.returns-clause-ok
returns-clause-ok c =
    let before = c.loop.invariant.walked in
    let full : c.loop.counter ≡ 1000 = omega arith in (
      before.0,
      before.1,
      walked-round c.loop.counter c.args.plan.now c.args.todo.now.items c.loop.todo.items
          c.args.net.now c.loop.net before.0 full before.2,
    )

pub returns-in_err-go_on-clause-err : goal.returns-in_err-go_on-clause-err
returns-in_err-go_on-clause-err c =
    let p = err_from_is_err_and c.from_residual.result c.from_residual.ensures.1 in
    let old = c.args.net.now in
    let before = c.loop.invariant.walked in
    let run = walks-run c.loop.counter c.args.plan.now c.args.todo.now.items old c.loop.todo.items c.loop.net before.0
    before.2 in
    let caused : IsCaused 0 0 0 1000000 c.in_err-go_on.field-0.0 old =
    caused-later 0 0 0 1000000 c.in_err-go_on.field-0.0 run.0 old c.loop.net run.2 run.1 c.in_err-go_on.ensures.err in
    rw p.1 (subst (λ e. IsCaused 0 0 0 1000000 e old) (sym p.2) caused)

pub go_on-requires-clause-kept : goal.go_on-requires-clause-kept
go_on-requires-clause-kept c =
    let old = c.args.net.now in
    let before = c.loop.invariant.walked in
    let run = walks-run c.loop.counter c.args.plan.now c.args.todo.now.items old c.loop.todo.items c.loop.net before.0
    before.2 in
    done-kept old c.loop.net run.0 run.1 ∙ c.requires.kept
