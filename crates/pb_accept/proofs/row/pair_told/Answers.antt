use Rattle.std.proofs.Common.{arith}
use Rattle.pb_accept.proofs.Entries.{too_few, too_many}
use Rattle.pb_accept.proofs.row.pair_told.Goals as goal

pub returns-in_default : goal.returns-in_default
returns-in_default c = too_few c.args.plan.now c.args.items.now (omega (arith, c.in_default.len_below))

pub returns-in_default-2 : goal.returns-in_default-2
returns-in_default-2 c = too_many c.args.plan.now c.args.items.now (omega (arith, c.in_default.len_at_least))
