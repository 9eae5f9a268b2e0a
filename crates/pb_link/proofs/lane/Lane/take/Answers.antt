use Rattle.std.proofs.Common.{rules}
use Rattle.pb_link.proofs.lane.Lane.take.Goals as goal

pub returns-clause-taken : goal.returns-clause-taken
returns-clause-taken c = (c.pop_known.result, search rules, search rules, search rules)
