use Rattle.std.proofs.Common.{[], string_bytes, subst}
use Rattle.std.proofs.lemmas.Result.{IfOk-weaker}
use Rattle.pb_cmd_survive.specs.Survivals.{most_events}
use Rattle.pb_cmd_report.specs.Changes.{IsChange}
use Rattle.pb_cmd_report.specs.Pages.{IsPage}
use Rattle.pb_cmd_report.proofs.report.put_compared.Goals as goal

pub returns-clause-ok : goal.returns-clause-ok
returns-clause-ok g c =
    let asked = c.args.asked.now in
    let source = c.args.source.now in
    let change = string_bytes c.in_ok-change.change in
    IfOk-weaker c.put_whole.result _ _
    (λ end h. (
      h.0,
      h.1,
      record {
        change = change;
        is_change = subst (λ file. IsChange c.args.old file asked change) c.as_bytes.ensures.value
            c.in_ok-change.ensures.ok;
        page = subst (λ text. IsPage c.args.plan.now [] asked.ticks most_events source text asked h.0)
            c.as_str.ensures.value h.2;
        end_is = h.3;
      },
    ))
    c.put_whole.ensures.ok
