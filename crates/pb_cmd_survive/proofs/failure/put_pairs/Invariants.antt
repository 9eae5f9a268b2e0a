use Rattle.std.proofs.Common.{◌≡◌, ◌+◌, ◌++◌, drop}
use Rattle.pb_lan.specs.Numbering.{numbers_from}
use Rattle.pb_cmd_survive.specs.Failures.{pairs_of}
use Rattle.pb_cmd_survive.proofs.failure.put_pairs.Given as goal

abbrev pub invariant-loop-place : goal.invariant-loop-place
invariant-loop-place l =
    l.failures.items ++ pairs_of (numbers_from (l.place + 1) (drop l.place l.links)) ≡ l.initial.failures.items
    ++ pairs_of (numbers_from 1 l.links)
