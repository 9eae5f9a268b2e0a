use Rattle.std.proofs.Common.{◌<◌, ◌≡◌, ℕ, length, map, ◌∙◌, arith}
use Rattle.pb_lan.proofs.StateLemmas.{numbers-all}
use Rattle.pb_rstp.specs.Roles.{best}
use Rattle.pb_spanning_tree.specs.TreeOf.{own_of, paths_of}
use Rattle.pb_spanning_tree.specs.TreeVectors.{is_listed, vector_of}
use Rattle.pb_spanning_tree.proofs.TreeCosts.{pushed-more}
use Rattle.pb_spanning_tree.proofs.tree.next_vectors.Goals as goal

pub loop-place-preserved : goal.loop-place-preserved
loop-place-preserved c =
    let plan = c.args.plan.now in
    let f = λ (bridge : ℕ). best (own_of plan bridge)
    (paths_of plan (is_listed c.args.disabled.now) (map vector_of c.args.vectors.now) bridge) in
    let within : c.loop-place.place < length plan.bridges = omega arith in
    pushed-more vector_of f plan.bridges c.loop-place.place c.loop-place.next.items c.push.new.self.items
    c.best_of.result within c.in_ok-push.ensures.items c.loop-place.invariant c.best_of.ensures

pub returns : goal.returns
returns c =
    let plan = c.args.plan.now in
    let f = λ (bridge : ℕ). best (own_of plan bridge)
    (paths_of plan (is_listed c.args.disabled.now) (map vector_of c.args.vectors.now) bridge) in
    let all : c.loop-place.place ≡ length plan.bridges = omega arith in
    c.loop-place.invariant ∙ numbers-all f 1 c.loop-place.place plan.bridges all
