use Rattle.std.proofs.Common.{◌<◌, subst}
use Rattle.pb_draw_layout.specs.Facts.{port_facts}
use Rattle.pb_draw_layout.specs.declared.scene.PortMark.{PortMark}
use Rattle.pb_draw_layout.proofs.MarkLemmas.{marks_more}
use Rattle.pb_draw_layout.proofs.marks.port_marks.Goals as goal

pub loop-place-preserved : goal.loop-place-preserved
loop-place-preserved c =
    marks_more (λ (m : PortMark). m.facts) (port_facts c.args.plan.now c.args.found.now) c.args.plan.now.customers
    c.loop-place.place c.loop-place.marks.items c.push.new.self.items _ _
    (subst (λ k. c.loop-place.place < k) c.len-place-end.ensures c.loop-place-test.true) c.in_ok-push.ensures.items
    c.port_facts.ensures c.loop-place.invariant
