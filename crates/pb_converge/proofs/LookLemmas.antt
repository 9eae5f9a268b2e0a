-- Whether the bridges had converged after the last two rounds.
use Rattle.std.proofs.Common.{◌≡◌, ◌⊎◌, inl, inr, ◌+◌, ◌-◌, ◌&&◌, ℕ, Bool, true, false, Some, refl, sym, subst, arith}
use Rattle.pb_net.specs.Answers.{NetView}
use Rattle.pb_relay.specs.Settled.{TellsConverged}
use Rattle.pb_converge.specs.Drives.{AreRounds, IsRound, HasLooked, HadNotConverged}

-- one more round after some rounds, with what the looks before and after it returned
pub looked-more : (ticks a b : ℕ) (before after : Bool) (old mid new : NetView) → AreRounds ticks a old mid
    → IsRound b mid new → TellsConverged mid.plan mid.rec (Some before) → TellsConverged new.plan new.rec (Some after)
    → HasLooked ((ticks + 1) - 1) before after old new
looked-more ticks a b before after old mid new rs r first second =
    let e : (ticks + 1) - 1 ≡ ticks = omega arith in
    subst (λ n. HasLooked n before after old new) (sym e) (record {
      between = mid;
      count = a;
      gone = rs;
      more = b;
      last = r;
      told_before = first;
      told_after = second;
    })

-- both looks returned true
pub looked-twice : (ticks a b : ℕ) (before after : Bool) (old mid new : NetView) → AreRounds ticks a old mid
    → IsRound b mid new → TellsConverged mid.plan mid.rec (Some before) → TellsConverged new.plan new.rec (Some after)
    → before ≡ true → after ≡ true → HasLooked ((ticks + 1) - 1) true true old new
looked-twice ticks a b before after old mid new rs r first second f s =
    let one = subst (λ x. TellsConverged mid.plan mid.rec (Some x)) f first in
    let two = subst (λ x. TellsConverged new.plan new.rec (Some x)) s second in
    looked-more ticks a b true true old mid new rs r one two

-- one of the two looks returned false, for the loop of rounds
pub not_converged-more : (ticks a b : ℕ) (before after : Bool) (old mid new : NetView) → AreRounds ticks a old mid
    → IsRound b mid new → TellsConverged mid.plan mid.rec (Some before) → TellsConverged new.plan new.rec (Some after)
    → (before && after) ≡ false → HadNotConverged (ticks + 1) old new
not_converged-more ticks a b before after old mid new rs r first second e =
    (before, after, looked-more ticks a b before after old mid new rs r first second, e)

pub not_both : (a b : Bool) → ((a ≡ true) × (b ≡ false)) ⊎ (a ≡ false) → (a && b) ≡ false
not_both true b (inl h) = h.1
not_both true b (inr e) = cc
not_both false b h = refl
