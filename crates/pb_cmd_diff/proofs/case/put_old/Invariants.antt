use Rattle.std.proofs.Common.{◌≡◌, ◌++◌, drop, map}
use Rattle.pb_cmd_diff.specs.Cases.{old_case}
use Rattle.pb_cmd_diff.proofs.case.put_old.Given as goal

abbrev pub invariant-loop-failure : goal.invariant-loop-failure
invariant-loop-failure l =
    l.cases.items ++ map (old_case l.old l.new) (drop l.failure-index l.failures)
    ≡ l.initial.cases.items ++ map (old_case l.old l.new) l.failures
