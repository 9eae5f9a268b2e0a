use Rattle.std.proofs.Common.{◌<◌, subst}
use Rattle.pb_draw_layout.specs.Facts.{bridge_facts}
use Rattle.pb_draw_layout.specs.declared.scene.BridgeMark.{BridgeMark}
use Rattle.pb_draw_layout.proofs.MarkLemmas.{marks_more}
use Rattle.pb_draw_layout.proofs.marks.bridge_marks.Goals as goal

pub loop-place-preserved : goal.loop-place-preserved
loop-place-preserved c =
    marks_more (λ (m : BridgeMark). m.facts) (bridge_facts c.args.plan.now c.args.failed.now c.args.found.now)
    c.args.plan.now.bridges c.loop-place.place c.loop-place.marks.items c.push.new.self.items _ _
    (subst (λ k. c.loop-place.place < k) c.len-place-end.ensures c.loop-place-test.true) c.in_ok-push.ensures.items
    c.bridge_facts.ensures c.loop-place.invariant
