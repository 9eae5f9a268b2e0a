use Rattle.std.proofs.Common.{◌<◌, ◌≤◌, ◌+◌, ◌∷◌, [], ◌++◌, min, length, drop, get_or, ap, ◌∙◌, sym, arith}
use Rattle.std.specs.List.{zip}
use Rattle.pb_names.proofs.ZipLemmas.{zip_there, zip_past}
use Rattle.pb_cmd_diff.specs.Effects.{change_of}
use Rattle.pb_plan_diff.proofs.ItemLemmas.{items_more}
use Rattle.pb_cmd_diff.proofs.ItemLemmas.{items_end}
use Rattle.pb_cmd_diff.proofs.effect.changes_of.Goals as goal

pub loop-place-preserved : goal.loop-place-preserved
loop-place-preserved c =
    let olds = c.args.was.now in
    let news = c.args.is.now in
    let i = c.loop-place.place in
    let was = c.index-was-place.result in
    let is = c.index-is-place.result in
    let change = change_of c.args.old.now c.args.new.now in
    let later = zip (drop (i + 1) olds) (drop (i + 1) news) in
    let before : i < length olds = omega (arith, c.loop-place-test.true, c.min-place-end.ensures) in
    let now : i < length news = omega (arith, c.loop-place-test.true, c.min-place-end.ensures) in
    items_more change [] c.loop-place.changes.items c.push.new.self.items
    (was, is) (zip (drop i olds) (drop i news)) later (zip olds news)
    (zip_there olds news i was is before now
    ∙ ap (λ v. (v, get_or news i is) ∷ later) (sym c.index-was-place.is)
    ∙ ap (λ v. (was, v) ∷ later) (sym c.index-is-place.is))
    (c.in_ok-push.ensures.items ∙ ap (λ v. c.loop-place.changes.items ++ v ∷ []) c.in_ok-change_of.ensures)
    c.loop-place.invariant

pub returns : goal.returns
returns c =
    let olds = c.args.was.now in
    let news = c.args.is.now in
    let i = c.loop-place.place in
    let past : min (length olds) (length news) ≤ i = omega (arith, c.loop-place-test.false, c.min-place-end.ensures) in
    items_end (change_of c.args.old.now c.args.new.now) [] c.loop-place.changes.items (zip (drop i olds) (drop i news))
    (zip olds news) (zip_past olds news i past) c.loop-place.invariant
