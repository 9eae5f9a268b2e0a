use Rattle.std.proofs.Common.{◌≡◌, ◌+◌, ◌++◌, drop}
use Rattle.std.specs.List.{filter}
use Rattle.pb_lan.specs.Numbering.{numbers_from}
use Rattle.pb_cmd_diff.specs.Compared.{is_compared, old_services}
use Rattle.pb_cmd_diff.proofs.compared.old_services.Given as goal

abbrev pub invariant-loop-place : goal.invariant-loop-place
invariant-loop-place l =
    l.services.items
    ++ filter (is_compared l.old l.new l.compared) (numbers_from (l.place + 1) (drop l.place l.old.services))
    ≡ old_services l.old l.new l.compared
