use Rattle.std.proofs.Common.{◌≡◌, ◌≢◌, ◌+◌, ◌<◌, ◌==◌, true, false, None, slice_set, refl, sym, ◌∙◌, ap, subst}
use Rattle.std.proofs.Common.{arith}
use Rattle.std.proofs.lemmas.Bool.{eqb-true}
use Rattle.pb_forest.proofs.PeelingLemmas.{left, takes-none, takes-more, step-clears, left-off}
use Rattle.pb_forest.proofs.GraphLemmas.{meets-back}
use Rattle.pb_forest.specs.Counting.{TakesOff}
use Rattle.pb_forest.specs.Graphs.{degree}
use Rattle.pb_forest.proofs.peeling.climb.Goals as goal

pub loop-branch-init : goal.loop-branch-init
loop-branch-init c = record {
  taken = takes-none c.args.graph.now c.args.branches.now.items c.requires.counted;
  there = c.requires.there;
  cleared = λ h x l n. h x (omega (arith, l, n));
}

pub loop-branch-preserved : goal.loop-branch-preserved
loop-branch-preserved c =
    let g = c.loop-branch.graph in
    let b = c.in-Some.branch in
    let is = c.in-Some.ensures in
    let inv = c.loop-branch.invariant in
    record {
      taken = subst (TakesOff c.args.graph.now c.take_off.new.self c.args.branches.now.items)
          (sym c.in_ok-push.ensures.items)
          (takes-more c.args.graph.now g c.take_off.new.self c.args.branches.now.items c.loop-branch.branches.items b
          inv.taken is.1 c.take_off.ensures);
      there =
          let w = inv.taken.counted.within b.link b.above b.bridge
          (meets-back g.links.items b.link b.bridge b.above is.1.link) in
          let e = c.take_off.ensures.bridges in
          omega (arith, w, e);
      cleared = λ h x l n. step-clears g.links.items c.take_off.new.self.links.items b is.1 c.take_off.ensures.joined
          x (λ ne. inv.cleared h x l (λ e. ne (e ∙ sym is.0))) n;
    }

pub loop-branch-smaller : goal.loop-branch-smaller
loop-branch-smaller c =
    let g = c.loop-branch.graph in
    let b = c.in-Some.branch in
    let is = c.in-Some.ensures in
    let o : left (slice_set g.links.items b.link None) + 1 ≡ left g.links.items =
    left-off g.links.items b.link is.1.link.ends is.1.link.there in
    let e : left c.take_off.new.self.links.items ≡ left (slice_set g.links.items b.link None) =
    ap left c.take_off.ensures.joined in
    let l : left c.take_off.new.self.links.items < left g.links.items = omega (arith, o, e) in
    l

pub returns : goal.returns
returns c = record {
  taken = c.loop-branch.invariant.taken;
  cleared = λ h x l.
      elim (x == c.loop-branch.bridge) as
      (λ t. (x == c.loop-branch.bridge) ≡ t → degree c.loop-branch.graph.links.items x ≢ 1) [
        | true ↦ λ t one. c.in_default.ensures
            (ap (degree c.loop-branch.graph.links.items) (sym (eqb-true x c.loop-branch.bridge t)) ∙ one)
        | false ↦ λ t. let ne : x ≢ c.loop-branch.bridge = grind (arith, t) in c.loop-branch.invariant.cleared h x l ne
      ] refl;
}
