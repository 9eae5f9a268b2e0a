use Rattle.std.proofs.Common.{sym, ◌∙◌, arith}
use Rattle.pb_rstp.proofs.InPlace.{same_more, same_at}
use Rattle.pb_rstp.proofs.port.are_same.Goals as goal

pub loop-i-preserved : goal.loop-i-preserved
loop-i-preserved c =
    same_more c.args.a.now c.args.b.now c.loop-i.i _ _ (omega arith) (omega arith)
    (c.is_same.ensures.0 c.if-not-is_same.false) c.loop-i.invariant

pub returns-then-not-is_same : goal.returns-then-not-is_same
returns-then-not-is_same c = (
  λ t. cc,
  λ same. sym c.if-not-is_same.true ∙ c.is_same.ensures.1
      (same_at c.args.a.now c.args.b.now c.loop-i.i _ _ (omega arith) (omega arith) same),
)
