use Rattle.std.proofs.Common.{◌≡◌, ◌++◌, string_bytes, refl, ap, subst, ◌∙◌}
use Rattle.std.specs.List.{AllZip}
use Rattle.pb_cmd_survive.specs.Failures.{all_failures}
use Rattle.pb_cmd_survive.specs.Impacts.{IsImpactOn}
use Rattle.pb_cmd_survive.specs.Scopes.{services_of}
use Rattle.pb_cmd_survive.specs.Survivals.{end_of, criteria_of, passes, said_text}
use Rattle.pb_cmd_survive.specs.declared.failure.Failure.TheVariants.{Nothing}
use Rattle.pb_cmd_survive.proofs.survive.put_looks.Goals as goal

pub returns : goal.returns
returns g c =
    let s = c.args.standing.now in
    let plan = s.plan.now in
    let asked = c.args.asked.now in
    let base = c.in_ok-base.base in
    let impacts = c.in_ok-impacts.impacts.items in
    let criteria = criteria_of plan asked in
    let services : c.as_slice.result.now ≡ services_of plan asked.scope = c.as_slice.ensures.value
    ∙ c.in_ok-services.ensures in
    let services' : c.as_slice-2.result.now ≡ services_of plan asked.scope = c.as_slice-2.ensures.value
    ∙ c.in_ok-services.ensures in
    let failures : c.as_slice-3.result.now ≡ all_failures plan asked.kinds = c.as_slice-3.ensures.value
    ∙ c.in_ok-failures.ensures in
    let looked = subst (λ fs. AllZip (IsImpactOn s c.as_slice-2.result.now) fs impacts) failures
    c.in_ok-impacts.ensures in
    let told = c.as_slice-impacts.result.now in
    let text : string_bytes c.put_said.new.out ≡ string_bytes c.args.out.now
    ++ said_text plan asked criteria base impacts = c.in_ok-put_said.ensures
    ∙ ap (λ k. string_bytes c.args.out.now ++ said_text plan asked k base told) c.criteria_of-criteria.ensures
    ∙ ap (λ os. string_bytes c.args.out.now ++ said_text plan asked criteria base os) c.as_slice-impacts.ensures.value
    in
    let passed = c.passes.ensures ∙ ap (λ k. passes plan asked k base told) c.criteria_of-criteria.ensures
    ∙ ap (λ os. passes plan asked criteria base os) c.as_slice-impacts.ensures.value in (
      said_text plan asked criteria base impacts,
      text,
      record {
        base = base;
        is_base = subst (λ ns. IsImpactOn s ns Nothing base) services c.in_ok-base.ensures;
        impacts = impacts;
        are_impacts = subst (λ ns. AllZip (IsImpactOn s ns) (all_failures plan asked.kinds) impacts) services' looked;
        text_is = refl;
        end_is = c.end_of.ensures ∙ ap end_of passed;
      },
    )
