use Rattle.std.proofs.Common.{◌≡◌, subst, ◌∙◌}
use Rattle.std.specs.List.{AllZip}
use Rattle.pb_cmd_diff.specs.Cases.{all_cases}
use Rattle.pb_cmd_diff.specs.Diffs.{IsComparedOn}
use Rattle.pb_cmd_diff.specs.Effects.{IsEffectOn}
use Rattle.pb_cmd_diff.proofs.diff.put_looks.Goals as goal

pub returns : goal.returns
returns g c =
    let s = c.args.sides.now in
    let asked = c.args.asked.now in
    let base = c.in_ok-base.base in
    let effects = c.in_ok-effects.effects.items in
    let cases : c.as_slice.result.now ≡ all_cases s.old.now.plan.now s.new.now.plan.now asked.kinds =
    c.as_slice.ensures.value ∙ c.in_ok-cases.ensures in
    let told = c.in_ok-put_effects.ensures in (
      told.0,
      told.1,
      record {
        base = base;
        is_base = subst (λ w. IsEffectOn s w base) c.calm.ensures c.in_ok-base.ensures;
        effects = effects;
        are_effects = subst (λ cs. AllZip (IsEffectOn s) cs effects) cases c.in_ok-effects.ensures;
        compared = subst (λ es. IsComparedOn s asked.all base es c.in_ok-put_effects.field-0 told.0)
            c.as_slice-2.ensures.value told.2;
      },
    )
