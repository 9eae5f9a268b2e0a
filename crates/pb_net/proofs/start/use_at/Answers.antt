use Rattle.std.proofs.Common.{true, false, refl}
use Rattle.pb_net.proofs.StartLemmas.{use_told}
use Rattle.pb_net.proofs.start.use_at.Goals as goal

pub returns-then-is_customer_there : goal.returns-then-is_customer_there
returns-then-is_customer_there c = use_told c.args.plan.now c.args.bridge c.args.port true _ (cc) refl

pub returns-then-is_end_there : goal.returns-then-is_end_there
returns-then-is_end_there c = use_told c.args.plan.now c.args.bridge c.args.port false true (cc) (cc)

pub returns : goal.returns
returns c = use_told c.args.plan.now c.args.bridge c.args.port false false (cc) (cc)
