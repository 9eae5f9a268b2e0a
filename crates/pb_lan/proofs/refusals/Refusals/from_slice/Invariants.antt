use Rattle.std.proofs.Common.{ℕ, ◌≡◌, ◌≤◌, ◌<◌, ◌++◌, drop, map}
use Rattle.std.specs.List.{AllByRecursion}
use Rattle.pb_lan.specs.PortSets.{AreAscending}
use Rattle.pb_lan.proofs.refusals.Refusals.from_slice.Given as goal

abbrev pub invariant-loop-refusal : goal.invariant-loop-refusal
invariant-loop-refusal l = record {
  set : l.set ++ drop l.refusal-index l.refusals ≡ l.refusals;
  before : (b : ℕ) → l.last < b → AllByRecursion (λ p. p < b) (map (λ r. r.0) l.set);
  last : l.last ≤ 16;
  behind : AreAscending 0 (map (λ r. r.0) l.refusals)
      → AreAscending l.last (map (λ r. r.0) (drop l.refusal-index l.refusals));
}
