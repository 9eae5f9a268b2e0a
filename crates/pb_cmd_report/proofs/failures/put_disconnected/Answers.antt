use Rattle.std.proofs.Common.{◌<◌, ◌≤◌, ◌+◌, ◌∷◌, min, length, drop, get_or, string_bytes, ap, ◌∙◌, sym, arith}
use Rattle.std.specs.List.{zip}
use Rattle.pb_cmd_report.specs.Failures.{disconnected_view}
use Rattle.pb_names.proofs.ZipLemmas.{zip_there, zip_past, text_more, text_end}
use Rattle.pb_cmd_report.proofs.failures.put_disconnected.Goals as goal

pub loop-place-preserved : goal.loop-place-preserved
loop-place-preserved c =
    let old = c.args.old.now in
    let new = c.args.new.now in
    let i = c.loop-place.place in
    let was = c.index-old-place.result in
    let is = c.index-new-place.result in
    let later = zip (drop (i + 1) old) (drop (i + 1) new) in
    let before : i < length old = omega (arith, c.loop-place-test.true, c.min-place-end.ensures) in
    let now : i < length new = omega (arith, c.loop-place-test.true, c.min-place-end.ensures) in
    text_more (disconnected_view c.args.plan.now) (string_bytes c.args.out.now) (string_bytes c.loop-place.out)
    (string_bytes c.put_disconnected_view.new.out)
    (was, is) (zip (drop i old) (drop i new)) later (zip old new)
    (zip_there old new i was is before now
    ∙ ap (λ v. (v, get_or new i is) ∷ later) (sym c.index-old-place.is)
    ∙ ap (λ v. (was, v) ∷ later) (sym c.index-new-place.is))
    c.in_ok-put_disconnected_view.ensures c.loop-place.invariant

pub returns : goal.returns
returns c =
    let old = c.args.old.now in
    let new = c.args.new.now in
    let i = c.loop-place.place in
    let past : min (length old) (length new) ≤ i = omega (arith, c.loop-place-test.false, c.min-place-end.ensures) in
    text_end (disconnected_view c.args.plan.now) (string_bytes c.args.out.now) (string_bytes c.loop-place.out)
    (zip (drop i old) (drop i new)) (zip old new) (zip_past old new i past) c.loop-place.invariant
