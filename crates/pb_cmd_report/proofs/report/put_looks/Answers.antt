use Rattle.std.proofs.Common.{◌≡◌, subst, ◌∙◌}
use Rattle.std.specs.List.{AllZip}
use Rattle.pb_lan.specs.Numbering.{numbers_from}
use Rattle.pb_cmd_survive.specs.Failures.{all_failures}
use Rattle.pb_cmd_survive.specs.declared.failure.Failure.TheVariants.{Nothing}
use Rattle.pb_cmd_report.specs.Analyses.{IsAnalysisOn}
use Rattle.pb_cmd_report.specs.Pages.{IsPageTextOn}
use Rattle.pb_cmd_report.proofs.report.put_looks.Goals as goal

pub returns : goal.returns
returns g c =
    let s = c.args.standing.now in
    let plan = s.plan.now in
    let asked = c.args.asked.now in
    let base = c.in_ok-base.base in
    let analyses = c.in_ok-analyses.analyses.items in
    let services : c.as_slice.result.now ≡ numbers_from 1 plan.services = c.as_slice.ensures.value
    ∙ c.in_ok-services.ensures in
    let services' : c.as_slice-2.result.now ≡ numbers_from 1 plan.services = c.as_slice-2.ensures.value
    ∙ c.in_ok-services.ensures in
    let failures : c.as_slice-3.result.now ≡ all_failures plan asked.kinds = c.as_slice-3.ensures.value
    ∙ c.in_ok-failures.ensures in
    let looked = subst (λ fs. AllZip (IsAnalysisOn s c.as_slice-2.result.now) fs analyses) failures
    c.in_ok-analyses.ensures in
    let told = c.in_ok-put_page.ensures in (
      told.0,
      told.1,
      record {
        base = base;
        is_base = subst (λ ns. IsAnalysisOn s ns Nothing base) services c.in_ok-base.ensures;
        analyses = analyses;
        are_analyses = subst (λ ns. AllZip (IsAnalysisOn s ns) (all_failures plan asked.kinds) analyses) services'
            looked;
        page = subst (λ os. IsPageTextOn s asked.title.now c.args.source.now c.args.change.now base os told.0)
            c.as_slice-analyses.ensures.value told.2;
      },
    )
