use Rattle.std.proofs.Common.{◌<◌, subst}
use Rattle.pb_draw_layout.specs.Facts.{service_facts}
use Rattle.pb_draw_layout.specs.declared.scene.ServiceMark.{ServiceMark}
use Rattle.pb_draw_layout.proofs.MarkLemmas.{marks_more}
use Rattle.pb_draw_layout.proofs.marks.service_marks.Goals as goal

pub loop-place-preserved : goal.loop-place-preserved
loop-place-preserved c =
    marks_more (λ (m : ServiceMark). m.facts) (service_facts c.args.chosen) c.args.plan.now.services
    c.loop-place.place c.loop-place.marks.items c.push.new.self.items _ _
    (subst (λ k. c.loop-place.place < k) c.len-place-end.ensures c.loop-place-test.true) c.in_ok-push.ensures.items
    c.service_facts.ensures c.loop-place.invariant
