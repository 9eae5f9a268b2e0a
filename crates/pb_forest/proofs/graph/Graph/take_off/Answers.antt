use Rattle.std.proofs.Common.{◌≡◌, length, slice_index, refl, ap, arith}
use Rattle.std.proofs.lemmas.List.{with_items_is}
use Rattle.pb_forest.proofs.CountingLemmas.{branch-degree, branch-sum, counted-off}
use Rattle.pb_forest.proofs.GraphLemmas.{meets-back}
use Rattle.pb_forest.specs.declared.graph.Ends.{Ends}
use Rattle.pb_forest.proofs.graph.Graph.take_off.Goals as goal

pub take_ends-requires-clause-fits : goal.take_ends-requires-clause-fits
take_ends-requires-clause-fits c x =
    let ends : Ends = record { a = c.args.branch.bridge; b = c.args.branch.above } in
    let f = branch-degree c.args.self.now c.requires.counted c.args.branch c.requires.last ends refl refl x in
    let e : slice_index c.deref_mut.result.now x ≡ slice_index c.args.self.now.degrees.items x =
    ap (λ xs. slice_index xs x) c.deref_mut.ensures.value in
    omega (arith, f, e)

pub take_ends-requires-2-clause-fits : goal.take_ends-requires-2-clause-fits
take_ends-requires-2-clause-fits c x =
    let ends : Ends = record { a = c.args.branch.bridge; b = c.args.branch.above } in
    let f = branch-sum c.args.self.now c.requires.counted c.args.branch c.requires.last ends refl refl x in
    let e : slice_index c.deref_mut-2.result.now x ≡ slice_index c.args.self.now.sums.items x =
    ap (λ xs. slice_index xs x) c.deref_mut-2.ensures.value in
    omega (arith, f, e)

pub take_ends-requires-clause-there : goal.take_ends-requires-clause-there
take_ends-requires-clause-there c =
    let g = c.args.self.now in
    let b = c.args.branch in
    let near = c.requires.counted.within b.link b.bridge b.above c.requires.last.link in
    let far = c.requires.counted.within b.link b.above b.bridge
    (meets-back g.links.items b.link b.bridge b.above c.requires.last.link) in
    let e : length c.deref_mut.result.now ≡ length g.degrees.items = ap length c.deref_mut.ensures.value in
    (omega (arith, near, e), omega (arith, far, e))

pub take_ends-requires-2-clause-there : goal.take_ends-requires-2-clause-there
take_ends-requires-2-clause-there c =
    let g = c.args.self.now in
    let b = c.args.branch in
    let near = c.requires.counted.within b.link b.bridge b.above c.requires.last.link in
    let far = c.requires.counted.within b.link b.above b.bridge
    (meets-back g.links.items b.link b.bridge b.above c.requires.last.link) in
    let same = c.requires.counted.same in
    let e : length c.deref_mut-2.result.now ≡ length g.sums.items = ap length c.deref_mut-2.ensures.value in
    (omega (arith, near, same, e), omega (arith, far, same, e))

pub returns : goal.returns
returns c =
    let g = c.args.self.now in
    let ends : Ends = record { a = c.args.branch.bridge; b = c.args.branch.above } in
    let ld : length c.deref_mut.result.now ≡ length g.degrees.items = ap length c.deref_mut.ensures.value in
    let ls : length c.deref_mut-2.result.now ≡ length g.sums.items = ap length c.deref_mut-2.ensures.value in
    let kd = g.degrees.ok.0 in
    let ks = g.sums.ok.0 in
    let ad = c.take_ends.auto.counts in
    let am = c.take_ends-2.auto.counts in
    let d = with_items_is g.degrees c.take_ends.new.counts (omega (arith, ld, kd, ad)) in
    let s = with_items_is g.sums c.take_ends-2.new.counts (omega (arith, ls, ks, am)) in
    counted-off g _ c.args.branch ends refl refl c.requires.counted c.requires.last refl
    (let e = ap length d in omega (arith, e, ad, ld))
    (let e = ap length s in omega (arith, e, am, ls))
    (λ x.
    let a = ap (λ xs. slice_index xs x) d in
    let b = c.take_ends.ensures x in
    let e : slice_index c.deref_mut.result.now x ≡ slice_index g.degrees.items x =
    ap (λ xs. slice_index xs x) c.deref_mut.ensures.value in
    omega (arith, a, b, e))
    (λ x.
    let a = ap (λ xs. slice_index xs x) s in
    let b = c.take_ends-2.ensures x in
    let e : slice_index c.deref_mut-2.result.now x ≡ slice_index g.sums.items x =
    ap (λ xs. slice_index xs x) c.deref_mut-2.ensures.value in
    omega (arith, a, b, e))
