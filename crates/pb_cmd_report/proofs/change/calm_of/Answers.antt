use Rattle.std.proofs.Common.{[]}
use Rattle.std.proofs.lemmas.Result.{IfOk-weaker}
use Rattle.pb_cmd_survive.proofs.StandingLemmas.{moved}
use Rattle.pb_cmd_survive.specs.declared.failure.Failure.TheVariants.{Nothing}
use Rattle.pb_cmd_report.specs.Analyses.{IsAnalysis, patience_of}
use Rattle.pb_cmd_report.proofs.change.calm_of.Goals as goal

pub returns : goal.returns
returns c =
    let up = c.in_ok-standing.ensures in
    IfOk-weaker c.look_at.result _ _
    (λ base h. moved c.in_ok-standing.standing c.args.plan.now [] (patience_of c.args.ticks) up.0 up.1 up.2
    (λ p n t e. IsAnalysis p n [] t e Nothing base) h)
    c.look_at.ensures
