use Rattle.std.proofs.Common.{◌++◌, ◌∙◌, ap, refl}
use Rattle.pb_cmd_run.specs.Reports.{ended_line, fault_lines, memory_line, settled_lines}
use Rattle.pb_cmd_run.proofs.ReportLemmas.{four_parts}
use Rattle.pb_cmd_run.proofs.report.put_run.Goals as goal

pub returns : goal.returns
returns g c =
    let plan = c.args.plan.now in
    let ran = c.args.ran.now in
    let k = c.in_ok-put_record.ensures in
    let faults = fault_lines c.as_slice-customers.result.now c.as_slice-lasts.result.now ++ memory_line ran.settled in (
      ended_line ran.ended ++ k.0 ++ settled_lines ran.settled ++ faults,
      four_parts _ _ _ _ _ _ _ _ _ c.in_ok-put_ended.ensures k.1 c.in_ok-put_settling.ensures
          c.in_ok-status.ensures.text,
      record {
        told = k.0;
        is_told = k.2;
        is_answer = c.requires.settled;
        faults = faults;
        faults_are =
            ap (λ z. fault_lines z c.as_slice-lasts.result.now ++ memory_line ran.settled) c.as_slice-customers.ensures
            ∙ ap (λ z. fault_lines plan.customers z ++ memory_line ran.settled) c.as_slice-lasts.ensures.value;
        text_is = refl;
        status_is = c.in_ok-status.ensures.status;
      },
    )
