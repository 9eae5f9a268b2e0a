use Rattle.std.proofs.Common.{◌≡◌, ◌++◌, List, ℕ, IfOk, inr, refl, string_bytes, subst}
use Rattle.pb_report.specs.Refusals.{refusal_line}
use Rattle.pb_service.specs.declared.fault.PlanFault.TheVariants.{Utf8}
use Rattle.pb_cmd_report.specs.Pages.{IsReportText}
use Rattle.pb_cmd_report.proofs.report.put_report.Goals as goal

pub returns-in-Ok-clause-ok : goal.returns-in-Ok-clause-ok
returns-in-Ok-clause-ok g c =
    subst (λ file. IfOk c.put_text.result (λ end. (text : List ℕ)
    × (string_bytes c.put_text.new.out ≡ string_bytes c.args.out.now ++ text)
    × IsReportText file c.args.asked.now end text))
    c.in-Ok.ensures.cases.0 c.put_text.ensures.ok

pub returns-in_ok-put_refusal-in-Err-clause-ok : goal.returns-in_ok-put_refusal-in-Err-clause-ok
returns-in_ok-put_refusal-in-Err-clause-ok g c = (
  refusal_line Utf8,
  c.in_ok-put_refusal-in-Err.ensures,
  inr (refl, record { fault = Utf8; refuses = c.in-Err.ensures.cases.0; text_is = refl }),
)
