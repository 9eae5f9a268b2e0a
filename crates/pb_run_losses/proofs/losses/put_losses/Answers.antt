use Rattle.std.proofs.Common.{◌∙◌, ◌++◌, ap, string_bytes}
use Rattle.std.proofs.lemmas.Slice.Zip.{Zip-more, either_empty_from_Zip}
use Rattle.pb_run_losses.proofs.LineLemmas.{pairs_more, pairs_end}
use Rattle.pb_run_losses.specs.Losses.{bridge_lines}
use Rattle.pb_run_losses.proofs.losses.put_losses.Goals as goal

pub loop-bridge-preserved : goal.loop-bridge-preserved
loop-bridge-preserved c =
    let more = Zip-more c.loop-bridge.bridge-iterator c.next.new.self c.next.result
    (c.in-Some.bridge, c.in-Some.tally) c.in-Some.is c.next.ensures.steps in
    let old = string_bytes c.loop-bridge.out in
    let put = c.in_ok-put_bridge.ensures ∙ ap (λ name. old ++ bridge_lines name c.in-Some.tally.now) c.as_str.ensures in
    pairs_more (λ b. bridge_lines b.0.name b.1) c.in-Some.bridge.now c.in-Some.tally.now _ _ _ _ old _ _ more.0 more.1
    put c.loop-bridge.invariant

pub returns : goal.returns
returns c =
    pairs_end (λ b. bridge_lines b.0.name b.1) _ _ (string_bytes c.loop-bridge.out) _
    (either_empty_from_Zip c.loop-bridge.bridge-iterator c.next.new.self c.next.result c.in-None.is
    c.next.ensures.steps) c.loop-bridge.invariant
