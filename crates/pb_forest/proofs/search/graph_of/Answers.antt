use Rattle.std.proofs.Common.{None, Some, length, take, sym, ◌∙◌, ap, subst, arith, ◌<◌}
use Rattle.std.proofs.lemmas.List.{length-take-le, take_all}
use Rattle.pb_forest.proofs.EdgeLemmas.{edges-length, edges-more, ends-there}
use Rattle.pb_forest.specs.Searching.{AreEdges}
use Rattle.pb_forest.proofs.search.graph_of.Goals.{After-link-item}
use Rattle.pb_forest.proofs.search.graph_of.Goals as goal

-- there is space for one more link
room : (c : After-link-item) → length c.loop-link.graph.links.items < 255
room c =
    let items = c.as_slice-link-items.result.now in
    let less = c.loop-link-test.true in
    let n = edges-length c.args.plan.now c.args.shape.now c.args.vid (take c.loop-link.link-index items)
    c.loop-link.graph.links.items c.loop-link.invariant.edges in
    let t = length-take-le c.loop-link.link-index items (omega (arith, less)) in
    let e = ap length c.as_slice-link-items.ensures in
    let few = c.requires in
    omega (arith, n, t, e, few, less)

pub push-requires-clause-room : goal.push-requires-clause-room
push-requires-clause-room c = room (goal.at.push-requires-clause-room c).After-link-item

pub push-requires-in-loop-link-clause-room : goal.push-requires-in-loop-link-clause-room
push-requires-in-loop-link-clause-room c = room (goal.at.push-requires-in-loop-link-clause-room c).After-link-item

pub loop-link-preserved-then-not-is_active : goal.loop-link-preserved-then-not-is_active
loop-link-preserved-then-not-is_active c =
    let next = c.in_ok-push.ensures in
    record {
      counted = next.counted;
      bridges = next.bridges ∙ c.loop-link.invariant.bridges;
      edges =
          edges-more c.args.plan.now c.args.shape.now c.args.vid c.as_slice-link-items.result.now
          c.loop-link.link-index c.loop-link.graph.links.items c.push.new.self.links.items c.link-item.result None
          c.loop-link-test.true c.link-item.is
          c.loop-link.invariant.edges (sym c.is_active.ensures ∙ c.if-not-is_active.true) next.joined;
    }

pub loop-link-preserved : goal.loop-link-preserved
loop-link-preserved c =
    let next = c.in_ok-push-2.ensures in
    record {
      counted = next.counted;
      bridges = next.bridges ∙ c.loop-link.invariant.bridges;
      edges =
          edges-more c.args.plan.now c.args.shape.now c.args.vid c.as_slice-link-items.result.now
          c.loop-link.link-index c.loop-link.graph.links.items c.push-in-loop-link.new.self.links.items
          c.link-item.result (Some c.in-Some.ends) c.loop-link-test.true c.link-item.is
          c.loop-link.invariant.edges (sym c.is_active.ensures ∙ c.if-not-is_active.false, c.in-Some.ensures.1)
          next.joined;
    }

pub returns-in_default : goal.returns-in_default
returns-in_default c f =
    let there = ends-there c.args.plan.now c.args.shape.now c.args.vid f.0 f.1 c.as_slice-link-items.result.now
    c.loop-link.link-index c.link-item.result c.as_slice-link-items.ensures c.loop-link-test.true c.link-item.is
    (sym c.is_active.ensures ∙ c.if-not-is_active.false) in
    let l = c.len-bridges.ensures in
    c.in_default.ensures (
      (omega (arith, there, l), omega (arith, there, l)),
      (omega (arith, there, l), omega (arith, there, l)),
    )

pub returns : goal.returns
returns c = (
  c.loop-link.invariant.counted,
  c.loop-link.invariant.bridges,
  subst (λ xs. AreEdges c.args.plan.now c.args.shape.now c.args.vid xs c.loop-link.graph.links.items)
      (take_all c.loop-link.link-index c.as_slice-link-items.result.now c.loop-link-test.false
      ∙ c.as_slice-link-items.ensures) c.loop-link.invariant.edges,
)
