use Rattle.std.proofs.Common.{arith}
use Rattle.pb_rstp.specs.Settling.{moved_on, with_role}
use Rattle.pb_rstp.proofs.InPlace.{change_more, change_all}
use Rattle.pb_rstp.proofs.settle.give_roles.Goals as goal

pub loop-p-preserved : goal.loop-p-preserved
loop-p-preserved c =
    change_more (moved_on (with_role c.args.id c.args.root.now))
    c.args.ports.now c.loop-p.ports c.loop-p.p-index _ c.give_role.new.p
    (omega arith) (omega arith) c.loop-p.invariant c.give_role.ensures

pub returns : goal.returns
returns c =
    change_all (moved_on (with_role c.args.id c.args.root.now))
    c.args.ports.now c.loop-p.ports c.loop-p.p-index (omega arith) c.loop-p.invariant
