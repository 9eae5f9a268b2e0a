use Rattle.std.proofs.Common.{[]}
use Rattle.std.proofs.lemmas.Result.{on_ok_weaker}
use Rattle.pb_cmd_survive.proofs.StandingLemmas.{moved}
use Rattle.pb_cmd_report.specs.Analyses.{patience_of}
use Rattle.pb_cmd_report.specs.Pages.{IsPage}
use Rattle.pb_cmd_report.proofs.report.put_plan.Goals as goal

pub returns : goal.returns
returns g c =
    let asked = c.args.asked.now in
    let up = c.in_ok-standing.ensures in
    on_ok_weaker c.put_looks.result
    (λ h. (
      h.0,
      h.1,
      moved c.in_ok-standing.standing c.args.plan.now [] (patience_of asked.ticks) up.0 up.1 up.2
          (λ p n t e. IsPage p n t e c.args.source.now c.args.change.now asked h.0) h.2,
    ))
    c.put_looks.ensures
