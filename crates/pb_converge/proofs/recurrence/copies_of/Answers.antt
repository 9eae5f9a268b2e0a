use Rattle.std.proofs.Common.{Bor, ◌∙◌}
use Rattle.pb_rstp.specs.Ports.{Machine}
use Rattle.pb_converge.proofs.MachineLemmas.{copies-more}
use Rattle.pb_converge.proofs.recurrence.copies_of.Goals as goal

pub loop-i-preserved : goal.loop-i-preserved
loop-i-preserved c =
    let f : Bor Machine → Machine = λ m. m.now in
    c.in_ok-push.ensures.items
    ∙ copies-more f c.args.machines.now c.loop-i.copies.items c.loop-i.i c.index-machines-i.result c.in_ok-clone.field-0
    c.loop-i-test.true c.loop-i.invariant c.index-machines-i.is c.in_ok-clone.ensures.cases
