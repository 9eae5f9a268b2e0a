use Rattle.std.proofs.Common.{◌∙◌}
use Rattle.pb_plan_spans.specs.Lines.{squeezed}
use Rattle.pb_plan_spans.proofs.StripLemmas.{not_first, not_second, not_third, all_three}
use Rattle.pb_plan_spans.proofs.line.is_made_of.Goals as goal

pub returns-in_default : goal.returns-in_default
returns-in_default c =
    not_first c.args.before.now c.args.word.now c.args.after.now (squeezed c.args.line.now) c.in_default.ensures

pub returns-in_default-behind : goal.returns-in_default-behind
returns-in_default-behind c =
    not_second c.args.before.now c.args.word.now c.args.after.now (squeezed c.args.line.now)
    (squeezed c.in-Some.line.now)
    c.in-Some.ensures c.in_default-behind.ensures

pub returns-in_default-behind-2 : goal.returns-in_default-behind-2
returns-in_default-behind-2 c =
    not_third c.args.before.now c.args.word.now c.args.after.now (squeezed c.args.line.now)
    (squeezed c.in-Some.line.now)
    (squeezed c.in-Some-behind.line.now) c.in-Some.ensures c.in-Some-behind.ensures c.in_default-behind-2.ensures

pub returns : goal.returns
returns c =
    c.is_empty.ensures ∙ all_three c.args.before.now c.args.word.now c.args.after.now (squeezed c.args.line.now)
    (squeezed c.in-Some.line.now)
    (squeezed c.in-Some-behind.line.now) (squeezed c.in-Some-behind-2.line.now) c.in-Some.ensures
    c.in-Some-behind.ensures c.in-Some-behind-2.ensures
