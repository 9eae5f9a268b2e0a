use Rattle.std.proofs.Common.{◌≡◌, ◌+◌, ◌++◌, map, drop}
use Rattle.pb_lan.specs.Numbering.{numbers_from}
use Rattle.pb_draw_layout.specs.Facts.{port_facts}
use Rattle.pb_draw_layout.specs.declared.scene.PortMark.{PortMark}
use Rattle.pb_draw_layout.proofs.marks.port_marks.Given as goal

-- the facts so far, then those of the numbers from here on, are the facts of all
abbrev pub invariant-loop-place : goal.invariant-loop-place
invariant-loop-place l =
    map (λ (m : PortMark). m.facts) l.marks.items
    ++ map (port_facts l.plan l.found) (numbers_from (l.place + 1) (drop l.place l.plan.customers)) ≡ map
    (port_facts l.plan l.found) (numbers_from 1 l.plan.customers)
