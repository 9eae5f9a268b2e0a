use Rattle.std.proofs.Common.{◌≡◌, suc, ◌<◌, ◌+◌, ◌∷◌, [], ◌++◌, length, drop, drop-cons, ap, ◌∙◌, sym, subst, arith}
use Rattle.pb_plan_diff.specs.Parts.{link_part}
use Rattle.pb_plan_diff.proofs.ItemLemmas.{items_more}
use Rattle.pb_plan_diff.proofs.parts.put_links.Goals as goal

pub loop-link-preserved : goal.loop-link-preserved
loop-link-preserved c =
    let items = c.as_slice-link-items.result.now in
    let links = c.args.plan.now.links in
    let i = c.loop-link.link-index in
    let link = c.link-item.result in
    let within : i < length items = c.loop-link-test.true in
    let step : suc i ≡ i + 1 = omega arith in
    let next : drop i items ≡ link ∷ drop (i + 1) items =
    drop-cons items i link within ∙ ap (λ v. v ∷ drop (suc i) items) (sym c.link-item.is)
    ∙ ap (λ n. link ∷ drop n items) step in
    items_more (link_part c.args.names.now c.args.plan.now) c.args.parts.now.items c.loop-link.parts.items
    c.push.new.self.items link (drop i links) (drop (i + 1) links) links
    (subst (λ v. drop i v ≡ link ∷ drop (i + 1) v) c.as_slice-link-items.ensures next)
    (c.in_ok-push.ensures.items ∙ ap (λ v. c.loop-link.parts.items ++ v ∷ []) c.in_ok-link_part.ensures)
    c.loop-link.invariant
