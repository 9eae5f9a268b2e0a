use Rattle.std.proofs.Common.{◌≡◌, ◌++◌, drop, map}
use Rattle.std.specs.List.{zip}
use Rattle.pb_cmd_diff.specs.Effects.{change_of}
use Rattle.pb_cmd_diff.proofs.effect.changes_of.Given as goal

abbrev pub invariant-loop-place : goal.invariant-loop-place
invariant-loop-place l =
    l.changes.items ++ map (change_of l.old l.new) (zip (drop l.place l.was) (drop l.place l.is))
    ≡ map (change_of l.old l.new) (zip l.was l.is)
