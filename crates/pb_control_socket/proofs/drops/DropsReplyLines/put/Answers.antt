use Rattle.std.proofs.lemmas.Result.{on_ok_weaker}
use Rattle.pb_control_socket.proofs.drops.DropsReplyLines.put.Goals as goal

pub returns : goal.returns
returns g c =
    on_ok_weaker c.put_bridge.result (λ e. (c.drops.result, c.drops.ensures, e)) c.put_bridge.ensures
