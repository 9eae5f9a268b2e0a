use Rattle.std.proofs.Common.{◌≡◌, [], length, refl, subst, arith, rules, ◌+◌, ◌≤◌}
use Rattle.std.proofs.lemmas.Option.{slice_get_read}
use Rattle.std.proofs.lemmas.List.{nil_from_length}
use Rattle.pb_forest.proofs.RootingLemmas.{RootsTo, roots-none, near-next, depth-next, roots-more, roots-all}
use Rattle.pb_forest.proofs.rooting.rooted_by.Goals.{In-Some, After-index}
use Rattle.pb_forest.specs.Rooting.{depth_below, IsNear}
use Rattle.pb_forest.proofs.rooting.rooted_by.Goals as goal

pub loop-branch-init : goal.loop-branch-init
loop-branch-init c =
    roots-none c.args.bridges c.args.branches.items c.in_ok-up.up.items c.in_ok-depth.depth.items
    (c.in_ok-up.ensures.items_if_clones_equal (search rules))
    (c.in_ok-depth.ensures.items_if_clones_equal (λ y h. h))

-- the branch that is taken is of these bridges
branch-near : (c : In-Some) → IsNear c.args.bridges c.in-Some.branch
branch-near c = near-next c.args.bridges c.args.branches.items c.loop-branch.branches.items c.pop.new.self.items
    c.loop-branch.up.items c.loop-branch.depth.items c.in-Some.branch c.loop-branch.invariant c.in-Some.ensures.items
    c.requires.near

-- the depth above the branch was read
depth-above : (c : After-index) → IsNear c.args.bridges c.in-Some.branch
    → (c.index.result.now ≡ depth_below c.loop-branch.invariant.later c.in-Some.branch.above)
    × (c.index.result.now + 1 ≤ length c.args.branches.items)
depth-above c near =
    let n = c.loop-branch.invariant.depths in
    let m = near.above in
    depth-next c.args.bridges c.args.branches.items c.loop-branch.branches.items c.pop.new.self.items
    c.loop-branch.up.items c.loop-branch.depth.items c.in-Some.branch c.index.result.now c.loop-branch.invariant
    c.in-Some.ensures.items near
    (slice_get_read c.loop-branch.depth.items (length c.loop-branch.depth.items) c.in-Some.branch.above
    c.index.result.now refl (omega (arith, n, m)) c.index.ensures)

pub loop-branch-preserved : goal.loop-branch-preserved
loop-branch-preserved c =
    roots-more c.args.bridges c.args.branches.items c.loop-branch.branches.items c.pop.new.self.items
    c.loop-branch.up.items c.loop-branch.depth.items c.in-Some.branch c.index.result.now c.loop-branch.invariant
    c.in-Some.ensures.items (branch-near (goal.at.loop-branch-preserved c).In-Some)
    (depth-above (goal.at.loop-branch-preserved c).After-index
    (branch-near (goal.at.loop-branch-preserved c).In-Some)).0

pub overflow_add-index : goal.overflow_add-index
overflow_add-index c =
    let l = (depth-above (goal.at.overflow_add-index c).After-index
    (branch-near (goal.at.overflow_add-index c).In-Some)).1 in
    let few = c.requires.few in
    omega (arith, l, few)

pub index_mut-requires-in-Some : goal.index_mut-requires-in-Some
index_mut-requires-in-Some c =
    let n = c.loop-branch.invariant.depths in
    let m = (branch-near (goal.at.index_mut-requires-in-Some c).In-Some).bridge in
    let k = c.loop-branch.depth.ok.0 in
    omega (arith, n, m, k)

pub returns : goal.returns
returns c =
    let none : c.loop-branch.branches.items ≡ [] = let v = c.in_default.ensures.cases in let k =
    c.loop-branch.branches.ok.0 in nil_from_length c.loop-branch.branches.items (omega (arith, v, k)) in
    roots-all c.args.bridges c.args.branches.items c.loop-branch.up.items c.loop-branch.depth.items _
    (subst (λ xs. RootsTo c.args.bridges c.args.branches.items xs c.loop-branch.up.items c.loop-branch.depth.items)
    none c.loop-branch.invariant)
    c.from_vec.ensures c.from_vec-2.ensures
