use Rattle.std.proofs.Common.{◌≤◌, ◌++◌, length, string_bytes, ap, subst, ◌∙◌, append_assoc}
use Rattle.pb_cmd_tree.proofs.TextLemmas.{services_more, services_end}
use Rattle.pb_cmd_tree.proofs.services.put_services.Goals as goal

pub loop-place-preserved : goal.loop-place-preserved
loop-place-preserved c =
    let before = c.loop-place.invariant in
    let here = c.in_ok-put_service.ensures in
    let old = string_bytes c.args.out.now in (
      before.0 ++ here.0,
      here.1 ∙ ap (λ z. z ++ here.0) before.1 ∙ append_assoc old before.0 here.0,
      λ rest are. services_more c.args.plan.now c.args.shape.now c.loop-place.place before.0 here.0 rest here.2
          before.2 are,
    )

pub returns : goal.returns
returns c =
    let before = c.loop-place.invariant in
    let past : length c.args.plan.now.services ≤ c.loop-place.place = subst (λ k. k ≤ c.loop-place.place)
    c.len-place-end.ensures c.loop-place-test.false in
    (before.0, before.1, services_end c.args.plan.now c.args.shape.now c.loop-place.place before.0 past before.2)
