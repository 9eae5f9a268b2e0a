use Rattle.std.proofs.Common.{IsTrue, rules}
use Rattle.pb_workers.proofs.drained.has_drained.Goals as goal

pub returns-then-are_all_ended : goal.returns-then-are_all_ended
returns-then-are_all_ended c = λ rules_of plan sound lawful.
    let drained = c.is_drained.ensures rules_of plan sound lawful in
    let yes : IsTrue c.are_all_ended.result = search rules in
    let all = c.are_all_ended.ensures.0 yes in
    (λ is. (all, drained.0 is), λ both. drained.1 both.1)
