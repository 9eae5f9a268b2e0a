use Rattle.std.proofs.Common.{◌<◌, ◌≡◌, length, ap, ◌∙◌, arith}
use Rattle.pb_lan.proofs.StateLemmas.{numbers-all}
use Rattle.pb_rstp.specs.Vectors.{own_vector}
use Rattle.pb_spanning_tree.specs.TreeOf.{own_of}
use Rattle.pb_spanning_tree.specs.TreeVectors.{vector_of}
use Rattle.pb_spanning_tree.proofs.TreeCosts.{pushed-more}
use Rattle.pb_spanning_tree.proofs.tree.own_vectors.Goals as goal

pub loop-place-preserved : goal.loop-place-preserved
loop-place-preserved c =
    let plan = c.args.plan.now in
    let within : c.loop-place.place < length plan.bridges = omega arith in
    pushed-more vector_of (own_of plan) plan.bridges c.loop-place.place c.loop-place.vectors.items
    c.push.new.self.items c.own.result within c.in_ok-push.ensures.items c.loop-place.invariant
    (c.own.ensures ∙ ap own_vector c.id_in.ensures)

pub returns : goal.returns
returns c =
    let plan = c.args.plan.now in
    let all : c.loop-place.place ≡ length plan.bridges = omega arith in
    c.loop-place.invariant ∙ numbers-all (own_of plan) 1 c.loop-place.place plan.bridges all
