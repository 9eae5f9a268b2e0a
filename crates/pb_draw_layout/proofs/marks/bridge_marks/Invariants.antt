use Rattle.std.proofs.Common.{◌≡◌, ◌+◌, ◌++◌, map, drop}
use Rattle.pb_lan.specs.Numbering.{numbers_from}
use Rattle.pb_draw_layout.specs.Facts.{bridge_facts}
use Rattle.pb_draw_layout.specs.declared.scene.BridgeMark.{BridgeMark}
use Rattle.pb_draw_layout.proofs.marks.bridge_marks.Given as goal

-- the facts so far, then those of the numbers from here on, are the facts of all
abbrev pub invariant-loop-place : goal.invariant-loop-place
invariant-loop-place l =
    map (λ (m : BridgeMark). m.facts) l.marks.items
    ++ map (bridge_facts l.plan l.failed l.found) (numbers_from (l.place + 1) (drop l.place l.plan.bridges)) ≡ map
    (bridge_facts l.plan l.failed l.found) (numbers_from 1 l.plan.bridges)
