use Rattle.std.proofs.Common.{◌<◌, subst}
use Rattle.pb_draw_layout.specs.Facts.{link_facts}
use Rattle.pb_draw_layout.specs.declared.scene.LinkMark.{LinkMark}
use Rattle.pb_draw_layout.proofs.MarkLemmas.{marks_more}
use Rattle.pb_draw_layout.proofs.marks.link_marks.Goals as goal

pub loop-place-preserved : goal.loop-place-preserved
loop-place-preserved c =
    marks_more (λ (m : LinkMark). m.facts)
    (link_facts c.args.plan.now c.args.shape.now c.args.failed.now c.args.found.now)
    c.args.plan.now.links c.loop-place.place c.loop-place.marks.items c.push.new.self.items _ _
    (subst (λ k. c.loop-place.place < k) c.len-place-end.ensures c.loop-place-test.true) c.in_ok-push.ensures.items
    c.link_facts.ensures c.loop-place.invariant
