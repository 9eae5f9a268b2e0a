use Rattle.std.proofs.Common.{length, sym, ◌∙◌, subst}
use Rattle.std.specs.List.{AllByRecursion}
use Rattle.pb_forest.proofs.CoreLemmas.{core-none}
use Rattle.pb_forest.proofs.ForestLemmas.{taken-near, taken-few, shows-taken}
use Rattle.pb_forest.specs.Graphs.{AreTakenOff, AreWithin}
use Rattle.pb_forest.specs.Rooting.{IsNear, IsRootedBy}
use Rattle.pb_lan.specs.Forests.{IsForest, Shows}
use Rattle.pb_forest.proofs.search.forest.Goals as goal

pub returns-then-has_links : goal.returns-then-has_links
returns-then-has_links c f =
    let g = rw c.in-Some.is at c.in_ok-graph.ensures in
    let t = c.in_ok-branches.ensures.taken in
    core-none c.args.plan.now c.args.shape.now c.vid_numbered-vid.result c.in-Some.graph.links.items t.more
    c.peel.new.graph g.2 t.taken t.counted c.in_ok-branches.ensures.cleared
    (sym c.has_links.ensures ∙ c.if-has_links.true)
    (subst (λ v. IsForest c.args.plan.now c.args.shape.now v) (sym c.vid_numbered-vid.ensures) f)

pub rooted_by-requires-clause-near : goal.rooted_by-requires-clause-near
rooted_by-requires-clause-near c =
    let g = rw c.in-Some.is at c.in_ok-graph.ensures in
    let t = c.in_ok-branches.ensures.taken in
    subst (λ n. AllByRecursion (IsNear n) c.in_ok-branches.branches.items) (g.1 ∙ sym c.len.ensures)
    (taken-near (length c.in-Some.graph.degrees.items) c.in-Some.graph.links.items c.in_ok-branches.branches.items
    c.peel.new.graph.links.items g.0.within g.0.few
    (subst (λ bs. AreTakenOff c.in-Some.graph.links.items bs c.peel.new.graph.links.items) (sym t.added) t.taken))

pub rooted_by-requires-clause-few : goal.rooted_by-requires-clause-few
rooted_by-requires-clause-few c =
    let g = rw c.in-Some.is at c.in_ok-graph.ensures in
    let t = c.in_ok-branches.ensures.taken in
    taken-few c.in-Some.graph.links.items c.in_ok-branches.branches.items c.peel.new.graph.links.items g.0.few
    (subst (λ bs. AreTakenOff c.in-Some.graph.links.items bs c.peel.new.graph.links.items) (sym t.added) t.taken)

pub returns : goal.returns
returns c =
    let g = rw c.in-Some.is at c.in_ok-graph.ensures in
    let t = c.in_ok-branches.ensures.taken in
    let plan = c.args.plan.now in
    let shape = c.args.shape.now in
    let bs = c.in_ok-branches.branches.items in
    let rooted = c.in_ok-rooted.rooted in
    subst (λ v. Shows plan shape v rooted) c.vid_numbered-vid.ensures
    (shows-taken plan shape c.vid_numbered-vid.result c.in-Some.graph.links.items bs c.peel.new.graph.links.items
    rooted g.2
    (subst (λ n. AreWithin n c.in-Some.graph.links.items) g.1 g.0.within)
    (subst (λ xs. AreTakenOff c.in-Some.graph.links.items xs c.peel.new.graph.links.items) (sym t.added) t.taken)
    (sym c.has_links.ensures ∙ c.if-has_links.false)
    (subst (λ n. IsRootedBy n bs rooted) c.len.ensures c.in_ok-rooted.ensures))
