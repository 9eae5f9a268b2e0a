use Rattle.std.proofs.Common.{◌≡◌, ◌≤◌, ◌+◌, suc, length, map, sym, ap, subst, ◌∙◌, arith}
use Rattle.pb_spanning_tree.specs.TreeOf.{next_vectors, vectors_after}
use Rattle.pb_spanning_tree.specs.TreeVectors.{AreSmall, is_listed, vector_of}
use Rattle.pb_spanning_tree.proofs.TreeCosts.{small-after}
use Rattle.pb_spanning_tree.proofs.tree.tree_of.Goals as goal

pub next_vectors-requires-clause-small : goal.next_vectors-requires-clause-small
next_vectors-requires-clause-small c =
    let few : c.loop-round.round ≤ 32 = omega arith in
    subst AreSmall (sym (ap (map vector_of) c.as_slice.ensures.value ∙ c.loop-round.invariant))
    (small-after c.args.plan.now (is_listed c.args.disabled.now) c.requires c.loop-round.round few)

pub loop-round-preserved : goal.loop-round-preserved
loop-round-preserved c =
    let one : suc c.loop-round.round ≡ c.loop-round.round + 1 = omega arith in
    c.in_ok-vectors-2.ensures
    ∙ ap (next_vectors c.args.plan.now (is_listed c.args.disabled.now))
    (ap (map vector_of) c.as_slice.ensures.value ∙ c.loop-round.invariant)
    ∙ ap (vectors_after c.args.plan.now (is_listed c.args.disabled.now)) one

pub returns : goal.returns
returns c =
    let all : c.loop-round.round ≡ length c.args.plan.now.bridges = omega arith in
    c.loop-round.invariant ∙ ap (vectors_after c.args.plan.now (is_listed c.args.disabled.now)) all
