use Rattle.std.proofs.Common.{map, drop, string_bytes}
use Rattle.pb_control_socket.proofs.LineTexts.{seen, SoFar}
use Rattle.pb_control_socket.proofs.reply_lines.put_each.Given as goal

abbrev pub invariant-loop-name : goal.invariant-loop-name
invariant-loop-name g l =
    SoFar (g.L.ReplyLines.lines l.those) (g.L.ReplyLines.told l.those) (string_bytes l.initial.out) (string_bytes l.out)
    (map seen l.things) (map seen (drop l.name-index l.things))
