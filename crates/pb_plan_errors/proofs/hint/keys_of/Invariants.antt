use Rattle.std.proofs.Common.{◌≡◌, ◌++◌, drop, map}
use Rattle.pb_plan_errors.proofs.hint.keys_of.Given as goal

-- the keys so far and those of the rules that are left are all keys
abbrev pub invariant-loop-rule : goal.invariant-loop-rule
invariant-loop-rule l =
    map (λ k. k.now) l.keys.items ++ map (λ r. r.key.now) (drop l.rule-index l.rules) ≡ map (λ r. r.key.now) l.rules
