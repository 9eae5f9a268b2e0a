use Rattle.std.proofs.Common.{[], subst}
use Rattle.pb_cmd_survive.specs.Impacts.{IsImpact}
use Rattle.pb_cmd_survive.specs.declared.standing.Patience.{Patience}
use Rattle.pb_cmd_diff.proofs.EffectLemmas.{effect_is}
use Rattle.pb_cmd_diff.proofs.effect.look_at_case.Goals as goal

pub returns : goal.returns
returns c =
    let s = c.args.sides.now in
    let old = s.old.now in
    let new = s.new.now in
    let p = old.patience in
    let what = c.args.what in
    let before = c.in_ok-before.before in
    let after = c.in_ok-after.after in
    effect_is old.plan.now new.plan.now s.olds.now p.ticks p.events what before after c.in_ok-effect_of.field-0
    (subst (λ ns. IsImpact old.plan.now ns s.olds.now p.ticks p.events what.old before) c.requires.old_whole
    c.in_ok-before.ensures)
    (subst (λ ns. IsImpact new.plan.now [] ns p.ticks p.events what.new after) c.requires.numbers
    (subst (λ (l : Patience). IsImpact new.plan.now [] s.news.now l.ticks l.events what.new after) c.requires.limits
    (subst (λ ns. IsImpact new.plan.now ns s.news.now new.patience.ticks new.patience.events what.new after)
    c.requires.new_whole c.in_ok-after.ensures)))
    c.in_ok-effect_of.ensures
