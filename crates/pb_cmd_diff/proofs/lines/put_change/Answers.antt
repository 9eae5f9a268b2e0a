use Rattle.std.proofs.Common.{◌≡◌, ◌++◌, map, codes, string_bytes, ap, ◌∙◌}
use Rattle.pb_cmd_survive.proofs.ListLemmas.{rejoin_three}
use Rattle.pb_cmd_diff.specs.Members.{swapped}
use Rattle.pb_cmd_diff.specs.Reports.{disconnected_lines, loop_line}
use Rattle.pb_cmd_diff.proofs.lines.put_change.Goals as goal

pub returns : goal.returns
returns c =
    let head = c.args.head.now in
    let old = c.args.old.now in
    let ms = c.args.change.now.members in
    let start = string_bytes c.args.out.now in
    let lost = disconnected_lines (head ++ codes "no longer reach each other:") old ms in
    let won = disconnected_lines (head ++ codes "now reach each other:") old (map swapped ms) in
    let loop = loop_line head c.args.change.now.was_forest c.args.change.now.is_forest in
    let same : c.as_slice-members.result.now ≡ ms = c.as_slice-members.ensures in
    let joined : c.as_slice.result.now ≡ map swapped ms =
    c.as_slice.ensures.value ∙ c.in_ok-joined.ensures ∙ ap (map swapped) same in
    c.in_ok-put_loop.ensures
    ∙ ap (λ z. z ++ loop) (c.in_ok-put_disconnected_with-2.ensures
    ∙ ap (λ v. string_bytes c.put_disconnected_with.new.out
    ++ disconnected_lines (head ++ codes "now reach each other:") old v)
    joined)
    ∙ ap (λ z. (z ++ won) ++ loop) (c.in_ok-put_disconnected_with.ensures
    ∙ ap (λ v. start ++ disconnected_lines (head ++ codes "no longer reach each other:") old v) same)
    ∙ rejoin_three start lost won loop
