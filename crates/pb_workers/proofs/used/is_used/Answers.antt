use Rattle.std.proofs.Common.{◌≡◌, ◌||◌, true}
use Rattle.std.specs.List.{list_any}
use Rattle.pb_lan.specs.Ports.{is_customer_at, is_end_at}
use Rattle.pb_workers.proofs.UsedPorts.{customer_used, end_used}
use Rattle.pb_workers.proofs.used.is_used.Goals as goal

pub returns-then-is_customer_there : goal.returns-then-is_customer_there
returns-then-is_customer_there c = λ yes.
    let there : list_any (is_customer_at c.args.bridge c.args.port) c.args.plan.now.customers ≡ true = cc in
    customer_used c.args.plan.now c.args.bridge c.args.port there

pub returns-else-is_customer_there : goal.returns-else-is_customer_there
returns-else-is_customer_there c = λ yes.
    let there : list_any (λ l. is_end_at c.args.bridge c.args.port l.a || is_end_at c.args.bridge c.args.port l.b)
    c.args.plan.now.links ≡ true = cc in
    end_used c.args.plan.now c.args.bridge c.args.port there
