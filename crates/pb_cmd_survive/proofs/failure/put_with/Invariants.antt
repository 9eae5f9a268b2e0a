use Rattle.std.proofs.Common.{◌≡◌, ◌+◌, ◌++◌, map, drop}
use Rattle.pb_lan.specs.Numbering.{numbers_from}
use Rattle.pb_cmd_survive.specs.declared.failure.Failure.TheVariants.{Pair}
use Rattle.pb_cmd_survive.proofs.failure.put_with.Given as goal

abbrev pub invariant-loop-place : goal.invariant-loop-place
invariant-loop-place l =
    l.failures.items ++ map (Pair l.link) (numbers_from (l.before + l.place + 1) (drop l.place l.later))
    ≡ l.initial.failures.items ++ map (Pair l.link) (numbers_from (l.before + 1) l.later)
