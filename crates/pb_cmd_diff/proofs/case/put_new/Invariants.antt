use Rattle.std.proofs.Common.{◌≡◌, ◌++◌, drop, map, not}
use Rattle.std.specs.List.{filter}
use Rattle.pb_cmd_diff.specs.Cases.{is_known, new_case}
use Rattle.pb_cmd_diff.proofs.case.put_new.Given as goal

abbrev pub invariant-loop-failure : goal.invariant-loop-failure
invariant-loop-failure l =
    l.cases.items
    ++ map (new_case l.old l.new) (filter (λ f. not (is_known l.new l.old f)) (drop l.failure-index l.failures))
    ≡ l.initial.cases.items
    ++ map (new_case l.old l.new) (filter (λ f. not (is_known l.new l.old f)) l.failures)
