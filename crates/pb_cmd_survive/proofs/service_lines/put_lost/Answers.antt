use Rattle.std.proofs.Common.{◌<◌, ◌≤◌, ◌+◌, min, length, drop, get_or, string_bytes, arith}
use Rattle.std.specs.List.{zip}
use Rattle.pb_cmd_survive.specs.Reports.{lost_text, no_site}
use Rattle.pb_names.proofs.ZipLemmas.{zip_there, zip_past, text_more, text_end}
use Rattle.pb_cmd_survive.proofs.service_lines.put_lost.Goals as goal

pub loop-place-preserved : goal.loop-place-preserved
loop-place-preserved c =
    let before = c.args.before.now in
    let now = c.args.now.now in
    let i = c.loop-place.place in
    let was : i < length before = omega (arith, c.loop-place-test.true, c.min-place-end.ensures) in
    let is : i < length now = omega (arith, c.loop-place-test.true, c.min-place-end.ensures) in
    text_more (lost_text c.args.plan.now c.args.criteria (zip before now)) (string_bytes c.args.out.now)
    (string_bytes c.loop-place.out) (string_bytes c.put_one_lost.new.out)
    (get_or before i no_site, get_or now i no_site) (zip (drop i before) (drop i now))
    (zip (drop (i + 1) before) (drop (i + 1) now)) (zip before now)
    (zip_there before now i no_site no_site was is) c.in_ok-put_one_lost.ensures c.loop-place.invariant

pub returns : goal.returns
returns c =
    let before = c.args.before.now in
    let now = c.args.now.now in
    let i = c.loop-place.place in
    let past : min (length before) (length now) ≤ i = omega (arith, c.loop-place-test.false, c.min-place-end.ensures) in
    text_end (lost_text c.args.plan.now c.args.criteria (zip before now)) (string_bytes c.args.out.now)
    (string_bytes c.loop-place.out)
    (zip (drop i before) (drop i now)) (zip before now) (zip_past before now i past) c.loop-place.invariant
