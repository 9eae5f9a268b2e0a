use Rattle.std.proofs.Common.{◌≡◌, ◌++◌, List, ℕ, drop, string_bytes}
use Rattle.pb_cmd_tree.specs.TreeTexts.{AreServiceTexts}
use Rattle.pb_cmd_tree.proofs.services.put_services.Given as goal

-- any text of the services from here on completes the text so far
abbrev pub invariant-loop-place : goal.invariant-loop-place
invariant-loop-place l =
    (done : List ℕ) × (string_bytes l.out ≡ string_bytes l.initial.out ++ done)
    × ((rest : List ℕ) → AreServiceTexts l.plan l.shape (drop l.place l.plan.services) rest → AreServiceTexts l.plan
    l.shape l.plan.services (done ++ rest))
