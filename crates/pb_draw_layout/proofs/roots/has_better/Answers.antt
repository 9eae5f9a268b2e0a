use Rattle.std.proofs.Common.{◌≡◌, ◌<◌, ◌≤◌, ◌∙◌, length, subst, sym}
use Rattle.pb_draw_layout.specs.Facts.{precedes, has_better}
use Rattle.pb_draw_layout.proofs.MarkLemmas.{any_more, any_here, any_none}
use Rattle.pb_draw_layout.proofs.roots.has_better.Goals as goal

pub returns-then-precedes : goal.returns-then-precedes
returns-then-precedes c =
    let plan = c.args.plan.now in
    any_here (precedes plan c.args.trees.now c.args.bridge) plan.bridges c.loop-place.place
    (has_better plan c.args.trees.now c.args.bridge)
    (subst (λ k. c.loop-place.place < k) c.len-place-end.ensures c.loop-place-test.true)
    (sym c.precedes.ensures ∙ c.if-precedes.true) c.loop-place.invariant

pub loop-place-preserved : goal.loop-place-preserved
loop-place-preserved c =
    let plan = c.args.plan.now in
    any_more (precedes plan c.args.trees.now c.args.bridge) plan.bridges c.loop-place.place
    (has_better plan c.args.trees.now c.args.bridge)
    (subst (λ k. c.loop-place.place < k) c.len-place-end.ensures c.loop-place-test.true)
    (sym c.precedes.ensures ∙ c.if-precedes.false) c.loop-place.invariant

pub returns : goal.returns
returns c =
    let plan = c.args.plan.now in
    any_none (precedes plan c.args.trees.now c.args.bridge) plan.bridges c.loop-place.place
    (has_better plan c.args.trees.now c.args.bridge)
    (subst (λ k. k ≤ c.loop-place.place) c.len-place-end.ensures c.loop-place-test.false) c.loop-place.invariant
