use Rattle.std.proofs.Common.{◌≡◌, List, [], ℕ, sym, subst, reverse, ◌++◌}
use Rattle.pb_forest.proofs.PathLemmas.{Goes, goes-start, goes-on, goes-nowhere, goes-there}
use Rattle.pb_forest.specs.Sides.{ClimbsDeeper}
use Rattle.pb_lan.specs.Forests.{IsPath}
use Rattle.pb_forest.proofs.ways.path.Goals as goal

pub loop-from_a-init : goal.loop-from_a-init
loop-from_a-init c shape vid s =
    subst (λ (xs : List ℕ). Goes c.args.plan.now shape vid c.args.rooted.now c.args.a c.args.b c.args.a xs c.args.b
    c.new-2.result.items) (sym c.new.ensures.items)
    (subst (λ (ys : List ℕ). Goes c.args.plan.now shape vid c.args.rooted.now c.args.a c.args.b c.args.a [] c.args.b
    ys) (sym c.new-2.ensures.items)
    (goes-start c.args.plan.now shape vid c.args.rooted.now c.args.a c.args.b))

pub loop-from_a-preserved : goal.loop-from_a-preserved
loop-from_a-preserved c shape vid s =
    let climbs = c.in_ok-climb_deeper.ensures in
    (goes-on c.args.plan.now shape vid c.args.rooted.now s c.args.a c.args.b c.loop-from_a.from_a c.loop-from_a.from_b
    c.climb_deeper.new.a c.climb_deeper.new.b
    (c.loop-from_a.invariant shape vid s) c.loop-from_a-test.true
    (subst (ClimbsDeeper c.args.plan.now c.args.rooted.now c.loop-from_a.from_a c.loop-from_a.from_b
    c.climb_deeper.new.a c.climb_deeper.new.b) c.if-not-branch.false climbs)).0

pub loop-from_a-smaller : goal.loop-from_a-smaller
loop-from_a-smaller c =
    let climbs = c.in_ok-climb_deeper.ensures in
    let shape = c.requires.0 in
    let vid = c.requires.1 in
    let s = c.requires.2 in
    (goes-on c.args.plan.now shape vid c.args.rooted.now s c.args.a c.args.b c.loop-from_a.from_a c.loop-from_a.from_b
    c.climb_deeper.new.a c.climb_deeper.new.b
    (c.loop-from_a.invariant shape vid s) c.loop-from_a-test.true
    (subst (ClimbsDeeper c.args.plan.now c.args.rooted.now c.loop-from_a.from_a c.loop-from_a.from_b
    c.climb_deeper.new.a c.climb_deeper.new.b) c.if-not-branch.false climbs)).1

pub returns-then-not-branch : goal.returns-then-not-branch
returns-then-not-branch c shape vid s =
    let climbs = c.in_ok-climb_deeper.ensures in
    goes-nowhere c.args.plan.now shape vid c.args.rooted.now s c.args.a c.args.b c.loop-from_a.from_a
    c.loop-from_a.from_b c.climb_deeper.new.a c.climb_deeper.new.b
    (c.loop-from_a.invariant shape vid s) c.loop-from_a-test.true
    (subst (ClimbsDeeper c.args.plan.now c.args.rooted.now c.loop-from_a.from_a c.loop-from_a.from_b
    c.climb_deeper.new.a c.climb_deeper.new.b) c.if-not-branch.true climbs)

pub returns : goal.returns
returns c shape vid s =
    let way : c.in_ok-links.links.items ≡ c.loop-from_a.from_a.links.items
    ++ reverse c.loop-from_a.from_b.links.items = c.in_ok-links.ensures in
    subst (λ (xs : List ℕ). IsPath c.args.plan.now shape vid c.args.a xs c.args.b) (sym way)
    (goes-there c.args.plan.now shape vid c.args.rooted.now c.args.a c.args.b c.loop-from_a.from_a.bridge
    c.loop-from_a.from_a.links.items c.loop-from_a.from_b.bridge c.loop-from_a.from_b.links.items
    (c.loop-from_a.invariant shape vid s) c.loop-from_a-test.false)
