use Rattle.std.proofs.Common.{◌<◌, ap, ◌∙◌, cond, nat_eq, get_or, slice_set, length, arith}
use Rattle.std.proofs.lemmas.List.{get_or_default}
use Rattle.std.proofs.lemmas.List.Edits.{map_over_more}
use Rattle.pb_joins.proofs.joining.join.Goals as goal

pub loop-mark-preserved : goal.loop-mark-preserved
loop-mark-preserved c =
    let old = c.args.marks.now in
    let marks = c.loop-mark.marks in
    let i = c.loop-mark.mark-index in
    let within : i < length old = omega arith in
    let here : i < length marks = omega arith in
    ap (λ v. slice_set marks i v) c.replaced.ensures
    ∙ map_over_more (λ m. cond (nat_eq m (get_or old c.args.from 0)) (get_or old c.args.into 0) m) old marks i
    (get_or marks i 0)
    within c.loop-mark.invariant (get_or_default marks i 0 (get_or marks i 0) here)
