use Rattle.std.proofs.Common.{◌≡◌, ◌+◌, drop}
use Rattle.std.specs.List.{list_any}
use Rattle.pb_lan.specs.Numbering.{numbers_from}
use Rattle.pb_draw_layout.specs.Facts.{precedes, has_better}
use Rattle.pb_draw_layout.proofs.roots.has_better.Given as goal

-- no bridge so far precedes
abbrev pub invariant-loop-place : goal.invariant-loop-place
invariant-loop-place l =
    list_any (precedes l.plan l.trees l.bridge) (numbers_from (l.place + 1) (drop l.place l.plan.bridges))
    ≡ has_better l.plan l.trees l.bridge
