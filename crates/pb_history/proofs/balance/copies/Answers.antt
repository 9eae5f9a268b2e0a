use Rattle.std.proofs.Common.{◌∙◌, sym, rules}
use Rattle.pb_lan.specs.Ports.{local_ports}
use Rattle.pb_history.proofs.StepLemmas.{none_refused}
use Rattle.pb_history.proofs.balance.copies.Goals as goal

pub returns-then-is_empty-clause-exact : goal.returns-then-is_empty-clause-exact
returns-then-is_empty-clause-exact c =
    c.from.ensures ∙ c.len.ensures.exact
    ∙ sym (none_refused c.args.chosen.now c.args.refused.now local_ports (search rules) ∙ c.len.ensures.each)
