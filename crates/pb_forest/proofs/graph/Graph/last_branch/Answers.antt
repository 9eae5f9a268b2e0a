use Rattle.std.proofs.Common.{◌≡◌, Some, slice_get, refl, sym, ◌∙◌, ap, inl, inr, arith}
use Rattle.std.proofs.lemmas.List.{get_or_read}
use Rattle.std.proofs.lemmas.Option.{slice_get_within}
use Rattle.pb_frame.proofs.Lists.{Some-injective}
use Rattle.pb_forest.proofs.CountingLemmas.{link-there, link-read, second-end, is-last}
use Rattle.pb_forest.specs.declared.graph.Ends.{Ends}
use Rattle.pb_forest.proofs.graph.Graph.last_branch.Goals as goal

pub index-requires-3 : goal.index-requires-3
index-requires-3 c =
    let g = c.args.self.now in
    let one = link-there g c.requires.counted c.args.bridge c.index.result.now c.index-2.result.now c.requires.there
    c.index.ensures c.if-index-ne1.false c.index-2.ensures in
    let w = slice_get_within g.links.items c.index-2.result.now (Some one.0) one.2 in
    let k = g.links.ok.0 in
    omega (arith, w, k)

pub unreachable-requires : goal.unreachable-requires
unreachable-requires c =
    let g = c.args.self.now in
    let one = link-there g c.requires.counted c.args.bridge c.index.result.now c.index-2.result.now c.requires.there
    c.index.ensures c.if-index-ne1.false c.index-2.ensures in
    let r = link-read g.links.items c.index-2.result.now one.0 c.index-3.result.now one.2 c.index-3.ensures in
    c.in_default.not-Some one.0 r

pub returns-then-ends-bridge : goal.returns-then-ends-bridge
returns-then-ends-bridge c =
    let g = c.args.self.now in
    let one = link-there g c.requires.counted c.args.bridge c.index.result.now c.index-2.result.now c.requires.there
    c.index.ensures c.if-index-ne1.false c.index-2.ensures in
    let r = link-read g.links.items c.index-2.result.now one.0 c.index-3.result.now one.2 c.index-3.ensures in
    let e : one.0 ≡ c.in-Some.ends = Some-injective (sym r ∙ c.in-Some.is) in
    let there : slice_get g.links.items c.index-2.result.now ≡ Some (Some c.in-Some.ends) = one.2
    ∙ ap (λ (x : Ends). Some (Some x)) e in (
      refl,
      is-last g c.requires.counted c.args.bridge c.index.result.now c.index-2.result.now c.in-Some.ends.b
          c.requires.there c.index.ensures c.if-index-ne1.false c.in-Some.ends there
          (inl (c.if-ends-bridge.true, refl)),
    )

pub returns-else-ends-bridge : goal.returns-else-ends-bridge
returns-else-ends-bridge c =
    let g = c.args.self.now in
    let one = link-there g c.requires.counted c.args.bridge c.index.result.now c.index-2.result.now c.requires.there
    c.index.ensures c.if-index-ne1.false c.index-2.ensures in
    let r = link-read g.links.items c.index-2.result.now one.0 c.index-3.result.now one.2 c.index-3.ensures in
    let e : one.0 ≡ c.in-Some.ends = Some-injective (sym r ∙ c.in-Some.is) in
    let there : slice_get g.links.items c.index-2.result.now ≡ Some (Some c.in-Some.ends) = one.2
    ∙ ap (λ (x : Ends). Some (Some x)) e in
    let b : one.0.b ≡ c.args.bridge = second-end one.0 c.args.bridge one.1 one.3
    (λ h. c.if-ends-bridge.false (ap (λ (x : Ends). x.a) (sym e) ∙ h)) in (
      refl,
      is-last g c.requires.counted c.args.bridge c.index.result.now c.index-2.result.now c.in-Some.ends.a
          c.requires.there c.index.ensures c.if-index-ne1.false c.in-Some.ends there
          (inr (ap (λ (x : Ends). x.b) (sym e) ∙ b, refl)),
    )

pub returns-then-index-ne1 : goal.returns-then-index-ne1
returns-then-index-ne1 c h =
    let g = c.args.self.now in
    let r = get_or_read g.degrees.items c.args.bridge c.index.result.now c.requires.there c.index.ensures 0 in
    c.if-index-ne1.true (r ∙ c.requires.counted.degrees c.args.bridge ∙ h)
