use Rattle.std.proofs.Common.{◌++◌, List, ℕ, map, drop}
use Rattle.pb_report.specs.ForestTexts.{AreLooping}
use Rattle.pb_report.proofs.forests.looping.Given as goal

-- the names so far, followed by those of the remaining services, are the names of all
abbrev pub invariant-loop-index : goal.invariant-loop-index
invariant-loop-index l =
    (rest : List (List ℕ)) → AreLooping l.plan l.shape (drop l.index l.plan.services) rest
    → AreLooping l.plan l.shape l.plan.services (map (λ n. n.now) l.names.items ++ rest)
