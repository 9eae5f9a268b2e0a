use Rattle.std.proofs.Common.{◌≡◌, ◌≤◌, ℕ}
use Rattle.pb_warnings.specs.Links.{is_member}
use Rattle.pb_warnings.proofs.rules.is_unequal.Given as goal

-- the ends agree on the services so far
abbrev pub invariant-loop-place : goal.invariant-loop-place
invariant-loop-place l = (k : ℕ) → 1 ≤ k → k ≤ l.place → is_member k l.link.a ≡ is_member k l.link.b
