use Rattle.std.proofs.Common.{◌≡◌, ◌+◌, ◌++◌, map, drop}
use Rattle.pb_lan.specs.Numbering.{numbers_from}
use Rattle.pb_draw_layout.specs.Facts.{link_facts}
use Rattle.pb_draw_layout.specs.declared.scene.LinkMark.{LinkMark}
use Rattle.pb_draw_layout.proofs.marks.link_marks.Given as goal

-- the facts so far, then those of the numbers from here on, are the facts of all
abbrev pub invariant-loop-place : goal.invariant-loop-place
invariant-loop-place l =
    map (λ (m : LinkMark). m.facts) l.marks.items
    ++ map (link_facts l.plan l.shape l.failed l.found) (numbers_from (l.place + 1) (drop l.place l.plan.links)) ≡ map
    (link_facts l.plan l.shape l.failed l.found) (numbers_from 1 l.plan.links)
