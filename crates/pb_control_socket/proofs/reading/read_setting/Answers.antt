use Rattle.pb_control_socket.proofs.RequestLemmas.{no_way}
use Rattle.pb_control_socket.proofs.reading.read_setting.Goals as goal

pub returns-in_err-up-clause-none : goal.returns-in_err-up-clause-none
returns-in_err-up-clause-none c =
    rw c.from_residual-in_err-up.ensures
    (no_way c.args.plan.now c.args.line.now c.in_ok-word.word.now c.in_ok-word.words.now c.in_ok-word.ensures.some
    c.in_err-up.ensures.none)
