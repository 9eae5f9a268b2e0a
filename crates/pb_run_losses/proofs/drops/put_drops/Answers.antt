use Rattle.std.proofs.Common.{◌≡◌, ◌∙◌, ◌++◌, ◌∷◌, ap, string_bytes, length, arith}
use Rattle.std.proofs.lemmas.Slice.Zip.{Zip-more, either_empty_from_Zip}
use Rattle.pb_run_losses.proofs.LineLemmas.{drops_more, drops_end}
use Rattle.pb_run_losses.specs.Drops.{bridge_drops, drops_from}
use Rattle.pb_run_losses.proofs.drops.put_drops.Goals as goal

pub loop-bridge-preserved : goal.loop-bridge-preserved
loop-bridge-preserved c =
    let plan = c.args.plan.now in
    let late = c.changed_late.result in
    let lost = c.args.lost in
    let n = c.loop-bridge.number in
    let steps = c.in-Some.tally.now in
    let old = string_bytes c.loop-bridge.out in
    let i = c.loop-bridge.invariant in
    let few = i.few in
    let more = Zip-more c.loop-bridge.bridge-iterator c.next.new.self c.next.result
    (c.in-Some.bridge, c.in-Some.tally) c.in-Some.is c.next.ensures.steps in
    let fewer = ap length more.0 in
    let put = c.in_ok-put_bridge.ensures ∙ ap (λ name. old ++ bridge_drops plan late lost n name steps)
    c.as_str.ensures in
    record {
      texts = drops_more plan late lost n c.in-Some.bridge.now steps _ _ _ _ old _ _ more.0 more.1 put i.texts;
      few = omega (arith, few, fewer);
    }

pub returns : goal.returns
returns c =
    drops_end c.args.plan.now c.changed_late.result c.args.lost c.loop-bridge.number _ _
    (string_bytes c.loop-bridge.out)
    _ (either_empty_from_Zip c.loop-bridge.bridge-iterator c.next.new.self c.next.result c.in-None.is
    c.next.ensures.steps) c.loop-bridge.invariant.texts
    ∙ ap (λ late. string_bytes c.args.out.now ++ drops_from c.args.plan.now late c.args.lost 1 c.args.plan.now.bridges
    c.args.tallies.now.bridges) c.changed_late.ensures
