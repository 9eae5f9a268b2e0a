use Rattle.std.proofs.Common.{arith, refl}
use Rattle.pb_lan.proofs.Rising.{rises_on, falls_at}
use Rattle.pb_lan.proofs.sound.records.services_rise.Goals as goal

pub returns-then-numbers-k : goal.returns-then-numbers-k
returns-then-numbers-k c = (
  (λ h. absurd cc),
  (λ r. absurd (falls_at c.args.numbers.now c.loop-k.k c.loop-k.auto.k c.loop-k-test.true
      c.if-numbers-k.true r)),
)

pub returns : goal.returns
returns c = ((λ h. rises_on _ (λ k l. c.loop-k.invariant k (omega (arith, c.loop-k-test.false)))), (λ r. refl))
