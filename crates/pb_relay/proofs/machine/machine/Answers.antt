use Rattle.std.proofs.Common.{Some, [], sym, ap, ◌∙◌}
use Rattle.pb_relay.proofs.CauseLemmas.{no_machine, a_machine}
use Rattle.pb_relay.proofs.machine.machine.Goals as goal

pub returns-in-Fixed : goal.returns-in-Fixed
returns-in-Fixed c = sym (no_machine c.args.plan.now c.args.number [] c.in-Fixed.is)

pub returns-in_ok-started-in-Rstp : goal.returns-in_ok-started-in-Rstp
returns-in_ok-started-in-Rstp c = ap Some c.in_ok-started-in-Rstp.ensures
    ∙ sym (a_machine c.args.plan.now c.args.number [] c.in-Rstp.is)
