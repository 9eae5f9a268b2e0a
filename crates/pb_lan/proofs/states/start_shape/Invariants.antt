use Rattle.std.proofs.Common.{◌≡◌, [], map, take}
use Rattle.pb_lan.specs.Numbering.{numbers_from}
use Rattle.pb_lan.specs.Shapes.{states_after}
use Rattle.pb_lan.proofs.states.start_shape.Given as goal

abbrev pub invariant-loop-place : goal.invariant-loop-place
invariant-loop-place l = l.states.items ≡ map (λ bridge. states_after l.plan bridge [])
    (take l.place (numbers_from 1 l.plan.bridges))
