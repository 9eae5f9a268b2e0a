use Rattle.std.proofs.Common.{◌≡◌, map, take}
use Rattle.pb_lan.specs.Numbering.{numbers_from}
use Rattle.pb_lan.specs.Records.{steps_of}
use Rattle.pb_lan.specs.Shapes.{states_after}
use Rattle.pb_history.proofs.shape.last_shape.Given as goal

abbrev pub invariant-loop-place : goal.invariant-loop-place
invariant-loop-place l = l.states.items ≡ map
    (λ bridge. states_after l.plan bridge (steps_of l.tallies.bridges bridge))
    (take l.place (numbers_from 1 l.plan.bridges))
