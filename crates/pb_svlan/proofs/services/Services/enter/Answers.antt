use Rattle.std.proofs.Common.{◌≡◌, Some, None, sym, ◌∙◌, refl}
use Rattle.pb_frame.specs.Admission.{refusal}
use Rattle.pb_svlan.proofs.AdmissionLemmas.{admitted-unrefused, refusal-admitted}
use Rattle.pb_svlan.proofs.services.Services.enter.Goals as goal

pub returns-in-Some-clause-admitted : goal.returns-in-Some-clause-admitted
returns-in-Some-clause-admitted c =
    let refused : refusal c.args.frame.now ≡ Some c.in-Some.reason = sym c.refusal.ensures ∙ c.in-Some.is in
    (λ h. cc, λ h. let none : Some c.in-Some.reason ≡ None = sym refused ∙ refusal-admitted c.args.frame.now h in cc)

pub returns-clause-admitted : goal.returns-clause-admitted
returns-clause-admitted c = (
  λ h. admitted-unrefused c.args.frame.now (sym c.refusal.ensures ∙ c.in_default.is),
  λ h. refl,
)
