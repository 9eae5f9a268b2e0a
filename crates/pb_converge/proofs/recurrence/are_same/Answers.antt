use Rattle.std.proofs.Common.{◌<◌, length, refl, arith, Bor}
use Rattle.pb_rstp.specs.Ports.{Machine}
use Rattle.pb_converge.proofs.MachineLemmas.{same-more}
use Rattle.pb_converge.proofs.recurrence.are_same.Goals as goal

pub loop-i-preserved : goal.loop-i-preserved
loop-i-preserved c =
    let f : Bor Machine → Machine = λ m. m.now in
    let within : c.loop-i.i < length c.args.machines.now = omega (arith, c.loop-i-test.true, c.if-machines-marked.false)
    in
    same-more f c.args.machines.now c.args.marked.now c.loop-i.i c.index-machines-i.result c.index-marked-i.result
    within c.loop-i-test.true c.loop-i.invariant c.index-machines-i.is c.index-marked-i.is
    (c.if-not-is_same.ensures.0 refl)
