use Rattle.std.proofs.Common.{◌+◌, map, drop, get_or, ap}
use Rattle.std.proofs.lemmas.List.{at_drop_more, drop_all}
use Rattle.pb_control_socket.proofs.LineTexts.{seen, no_name, line_more, lines_end}
use Rattle.pb_control_socket.proofs.reply_lines.put_each.Goals as goal

pub loop-name-preserved : goal.loop-name-preserved
loop-name-preserved g c =
    let things = c.args.things.now in
    let those = c.args.those.now in
    let k = c.loop-name.name-index in
    let here = c.in_ok-put.ensures in
    line_more (g.L.ReplyLines.lines those) (g.L.ReplyLines.told those) _ _ _ (map seen things)
    (map seen (drop k things)) (map seen (drop (k + 1) things)) (seen (get_or things k no_name)) here.0
    (at_drop_more (λ xs. map seen xs) things k no_name c.loop-name-test.true) here.1 here.2 c.loop-name.invariant

pub returns : goal.returns
returns g c =
    let things = c.args.things.now in
    let those = c.args.those.now in
    lines_end (g.L.ReplyLines.lines those) (g.L.ReplyLines.told those) _ _ (map seen things)
    (map seen (drop c.loop-name.name-index things))
    (ap (λ xs. map seen xs) (drop_all c.loop-name.name-index things c.loop-name-test.false)) c.loop-name.invariant
