use Rattle.std.proofs.Common.{◌≡◌, ◌⊎◌, inl, inr, ℕ, ◌+◌, ◌<◌, ◌≤◌, refl, subst, arith}
use Rattle.std.proofs.lemmas.Bool.{cases_lt}
use Rattle.pb_warnings.specs.Links.{is_member}
use Rattle.pb_warnings.proofs.rules.is_unequal.Goals as goal

-- what holds for the numbers from 1 to i, and for the next one, holds for them all
more : (P : ℕ → Type 0) (i : ℕ) → ((k : ℕ) → 1 ≤ k → k ≤ i → P k) → P (i + 1) → (k : ℕ) → 1 ≤ k → k ≤ i + 1 → P k
more P i f p k low high = by (cases_lt i k)
  where
    by : (i < k) ⊎ (k ≤ i) → P k
    by (inl h) = let e : i + 1 ≡ k = omega (arith, h, high) in subst P e p
    by (inr h) = f k low h

pub returns-then-are_different : goal.returns-then-are_different
returns-then-are_different c = (
  λ h. (c.loop-place.place + 1, (omega arith, omega arith), c.are_different.ensures.different c.if-are_different.true),
  λ u. refl,
)

pub loop-place-preserved : goal.loop-place-preserved
loop-place-preserved c =
    more (λ k. is_member k c.args.link.now.a ≡ is_member k c.args.link.now.b) c.loop-place.place c.loop-place.invariant
    (c.are_different.ensures.same c.if-are_different.false)

pub returns : goal.returns
returns c = (
  λ h. cc,
  λ u. absurd (u.2 (c.loop-place.invariant u.0 u.1.0 (let high = u.1.1 in omega (arith, high)))),
)
