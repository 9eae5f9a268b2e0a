use Rattle.std.proofs.Common.{◌≡◌, ◌+◌, ◌++◌, map, drop}
use Rattle.pb_lan.specs.Numbering.{numbers_from}
use Rattle.pb_cmd_survive.specs.declared.failure.Failure.TheVariants.{Link}
use Rattle.pb_cmd_survive.proofs.failure.put_links.Given as goal

abbrev pub invariant-loop-place : goal.invariant-loop-place
invariant-loop-place l =
    l.failures.items ++ map Link (numbers_from (l.place + 1) (drop l.place l.links)) ≡ l.initial.failures.items
    ++ map Link (numbers_from 1 l.links)
