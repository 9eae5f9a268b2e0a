use Rattle.std.proofs.Common.{◌≡◌, ◌<◌, ◌+◌, ◌-◌, ◌++◌, drop, length, get_or, sym, ap, ◌∙◌, arith, append_assoc}
use Rattle.std.proofs.lemmas.List.{drop_more}
use Rattle.pb_cmd_trace.specs.Onwards.{copies_of, sendings}
use Rattle.pb_cmd_trace.proofs.following.push_sendings.Goals as goal

pub loop-place-preserved : goal.loop-place-preserved
loop-place-preserved c =
    let chosen = c.args.chosen.now in
    let refused = c.args.refused.now in
    let bridge = c.args.bridge in
    let old = c.args.todo.now.items in
    let p = c.loop-place.place - 1 in
    let inside : p < length chosen = omega arith in
    let next : c.loop-place.place ≡ p + 1 = omega arith in
    let before : c.loop-place.todo.items ≡ old ++ sendings bridge refused (drop (p + 1) chosen) =
    c.loop-place.invariant ∙ ap (λ n. old ++ sendings bridge refused (drop n chosen)) next in
    let here = copies_of bridge refused (get_or chosen p 0) in
    c.in_ok-push_sending.ensures ∙ ap (λ z. z ++ here) before
    ∙ append_assoc old (sendings bridge refused (drop (p + 1) chosen)) here
    ∙ sym (ap (λ xs. old ++ sendings bridge refused xs) (drop_more chosen p 0 inside))
