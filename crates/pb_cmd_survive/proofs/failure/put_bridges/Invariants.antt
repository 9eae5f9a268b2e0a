use Rattle.std.proofs.Common.{◌≡◌, ◌+◌, ◌++◌, map, drop}
use Rattle.pb_lan.specs.Numbering.{numbers_from}
use Rattle.pb_cmd_survive.specs.declared.failure.Failure.TheVariants.{Bridge}
use Rattle.pb_cmd_survive.proofs.failure.put_bridges.Given as goal

abbrev pub invariant-loop-place : goal.invariant-loop-place
invariant-loop-place l =
    l.failures.items ++ map Bridge (numbers_from (l.place + 1) (drop l.place l.bridges)) ≡ l.initial.failures.items
    ++ map Bridge (numbers_from 1 l.bridges)
