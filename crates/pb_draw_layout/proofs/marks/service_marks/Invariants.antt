use Rattle.std.proofs.Common.{◌≡◌, ◌+◌, ◌++◌, map, drop}
use Rattle.pb_lan.specs.Numbering.{numbers_from}
use Rattle.pb_draw_layout.specs.Facts.{service_facts}
use Rattle.pb_draw_layout.specs.declared.scene.ServiceMark.{ServiceMark}
use Rattle.pb_draw_layout.proofs.marks.service_marks.Given as goal

-- the facts so far, then those of the numbers from here on, are the facts of all
abbrev pub invariant-loop-place : goal.invariant-loop-place
invariant-loop-place l =
    map (λ (m : ServiceMark). m.facts) l.marks.items
    ++ map (service_facts l.chosen) (numbers_from (l.place + 1) (drop l.place l.plan.services)) ≡ map
    (service_facts l.chosen) (numbers_from 1 l.plan.services)
