use Rattle.std.proofs.Common.{sym, ◌∙◌}
use Rattle.pb_rstp.specs.Laws.{IsInLine}
use Rattle.pb_rstp.proofs.NetworkLaws.{all-front, all-item}
use Rattle.pb_rstp.proofs.network.are_in_line.Goals as goal

pub loop-bridge-preserved : goal.loop-bridge-preserved
loop-bridge-preserved c rest =
    c.loop-bridge.invariant
    (all-front IsInLine (λ m. m.now) c.args.bridges.now c.loop-bridge.bridge-index c.bridge-item.result
    c.loop-bridge-test.true c.bridge-item.is
    (c.is_in_line.ensures.0 c.if-not-is_in_line.false) rest)

pub returns-then-not-is_in_line : goal.returns-then-not-is_in_line
returns-then-not-is_in_line c = (
  λ t. cc,
  λ all. sym c.if-not-is_in_line.true ∙ c.is_in_line.ensures.1
      (all-item IsInLine (λ m. m.now) c.args.bridges.now c.loop-bridge.bridge-index c.bridge-item.result
      c.loop-bridge-test.true c.bridge-item.is all),
)
