use Rattle.std.proofs.Common.{map, subst}
use Rattle.std.proofs.lemmas.Result.{on_ok_weaker}
use Rattle.pb_control_socket.proofs.LineTexts.{seen}
use Rattle.pb_control_socket.specs.Texts.{AreLines}
use Rattle.pb_control_socket.proofs.reply_lines.put_of_ports.Goals as goal

pub returns : goal.returns
returns g c =
    let those = c.args.those.now in
    on_ok_weaker c.put_each.result (λ e. (
      e.0,
      e.1,
      record {
        things = map seen c.in_ok-ports.ports.items;
        by_name = c.in_ok-ports.ensures;
        are_lines = subst (λ xs. AreLines (g.L.ReplyLines.lines those) (g.L.ReplyLines.told those) (map seen xs) e.0)
            c.as_slice.ensures.value e.2;
      },
    )) c.put_each.ensures
