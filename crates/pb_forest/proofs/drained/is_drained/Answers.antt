use Rattle.pb_forest.proofs.DrainedBalance.{tells-drained}
use Rattle.pb_forest.proofs.drained.is_drained.Goals as goal

pub returns-then-has_few-3 : goal.returns-then-has_few-3
returns-then-has_few-3 c rules plan sound lawful =
    let t = tells-drained rules plan sound c.args.tallies.now lawful in
    ((λ r. t.0 (c.balances.ensures.0 r)), (λ d. c.balances.ensures.1 (t.1 d)))
