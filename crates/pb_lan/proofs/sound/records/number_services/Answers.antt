use Rattle.std.proofs.Common.{rules, length}
use Rattle.pb_lan.proofs.Each.{by_recursion}
use Rattle.pb_lan.proofs.sound.records.number_services.Goals as goal
use Rattle.pb_lan.specs.Plans.{IsNumber}

pub returns : goal.returns
returns c = by_recursion (λ s. IsNumber s (length c.args.services.now)) c.args.numbers.now (search rules)
