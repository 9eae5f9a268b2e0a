use Rattle.std.proofs.Common.{◌≡◌, ◌+◌, ◌-◌, Some, slice_get, sym, ap, subst, ◌∙◌}
use Rattle.pb_warnings.proofs.HopLemmas.{nears_after}
use Rattle.pb_joins.proofs.JoinLemmas.{end_number, link_there}
use Rattle.pb_warnings.specs.Hops.{relaxed, Nears}
use Rattle.pb_warnings.proofs.hops.relax_all.Goals as goal

pub relax-requires-clause-from : goal.relax-requires-clause-from
relax-requires-clause-from c =
    let i = c.loop-link.link-index in
    let here : slice_get c.args.plan.now.links i ≡ Some c.link-item.result = link_there c.args.plan.now.links
    c.as_slice-link-items.result.now i c.link-item.result c.as_slice-link-items.ensures c.loop-link-test.true
    c.link-item.is in
    (end_number c.args.plan.now c.requires i c.link-item.result here).0

pub relax-requires-clause-into : goal.relax-requires-clause-into
relax-requires-clause-into c =
    let i = c.loop-link.link-index in
    let here : slice_get c.args.plan.now.links i ≡ Some c.link-item.result = link_there c.args.plan.now.links
    c.as_slice-link-items.result.now i c.link-item.result c.as_slice-link-items.ensures c.loop-link-test.true
    c.link-item.is in
    (end_number c.args.plan.now c.requires i c.link-item.result here).1

pub relax-requires-in-loop-link-clause-from : goal.relax-requires-in-loop-link-clause-from
relax-requires-in-loop-link-clause-from c =
    let i = c.loop-link.link-index in
    let here : slice_get c.args.plan.now.links i ≡ Some c.link-item.result = link_there c.args.plan.now.links
    c.as_slice-link-items.result.now i c.link-item.result c.as_slice-link-items.ensures c.loop-link-test.true
    c.link-item.is in
    (end_number c.args.plan.now c.requires i c.link-item.result here).1

pub relax-requires-in-loop-link-clause-into : goal.relax-requires-in-loop-link-clause-into
relax-requires-in-loop-link-clause-into c =
    let i = c.loop-link.link-index in
    let here : slice_get c.args.plan.now.links i ≡ Some c.link-item.result = link_there c.args.plan.now.links
    c.as_slice-link-items.result.now i c.link-item.result c.as_slice-link-items.ensures c.loop-link-test.true
    c.link-item.is in
    (end_number c.args.plan.now c.requires i c.link-item.result here).0

pub loop-link-preserved : goal.loop-link-preserved
loop-link-preserved c =
    let plan = c.args.plan.now in
    let i = c.loop-link.link-index in
    let link = c.link-item.result in
    let here : slice_get plan.links i ≡ Some link = link_there plan.links c.as_slice-link-items.result.now i link
    c.as_slice-link-items.ensures c.loop-link-test.true c.link-item.is in
    let is = c.relax-in-loop-link.ensures
    ∙ ap (λ hops. relaxed hops (link.b.bridge - 1) (link.a.bridge - 1)) c.relax.ensures in
    record {
      nears = subst (Nears plan (i + 1) c.args.hops.now) (sym is)
          (nears_after plan i link c.args.hops.now c.loop-link.hops c.requires c.loop-link.invariant.many here
          c.loop-link.invariant.nears);
      many = c.relax-in-loop-link.array_long;
    }
