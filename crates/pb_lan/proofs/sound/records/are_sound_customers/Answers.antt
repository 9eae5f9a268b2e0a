use Rattle.std.proofs.Common.{rules}
use Rattle.pb_lan.proofs.Each.{by_recursion}
use Rattle.pb_lan.proofs.sound.records.are_sound_customers.Goals as goal
use Rattle.pb_lan.specs.Plans.{IsSoundCustomer}

pub returns : goal.returns
returns c = by_recursion (IsSoundCustomer c.args.plan.now) c.args.plan.now.customers (search rules)
