use Rattle.std.proofs.Common.{◌≡◌, Some, length, slice_index, refl, ap, arith}
use Rattle.std.proofs.lemmas.List.{with_items_is}
use Rattle.pb_forest.proofs.CountingLemmas.{degree-fits, sum-fits, counted-push}
use Rattle.pb_forest.specs.Graphs.{share}
use Rattle.pb_forest.proofs.graph.Graph.push.Goals as goal

pub returns-in_default : goal.returns-in_default
returns-in_default c =
    counted-push c.args.self.now _ c.args.joined c.requires.counted c.requires.room c.requires.within
    c.in_ok-push.ensures.items refl refl
    (λ x. let e = ap (λ o. share o x 1) c.in_default.is in omega (arith, e))
    (λ x. let e = ap (λ o. share o x (length c.args.self.now.links.items)) c.in_default.is in omega (arith, e))

pub add_ends-requires-clause-fits : goal.add_ends-requires-clause-fits
add_ends-requires-clause-fits c x =
    let f = degree-fits c.args.self.now c.requires.counted (Some c.in-Some.ends) x in
    let e = ap (λ xs. slice_index xs x) c.deref_mut.ensures.value in
    omega (arith, f, e)

pub add_ends-requires-in-Some-clause-fits : goal.add_ends-requires-in-Some-clause-fits
add_ends-requires-in-Some-clause-fits c x =
    let f = sum-fits c.args.self.now c.requires.counted (Some c.in-Some.ends) x c.len-link.result
    (let r = c.requires.room in let l = c.len-link.ensures in let k = c.args.self.now.links.ok.0 in omega
    (arith, r, l, k)) in
    let e = ap (λ xs. slice_index xs x) c.deref_mut-in-Some.ensures.value in
    omega (arith, f, e)

pub returns-in-Some : goal.returns-in-Some
returns-in-Some c =
    let d = with_items_is c.args.self.now.degrees c.add_ends.new.counts (omega arith) in
    let s = with_items_is c.args.self.now.sums c.add_ends-in-Some.new.counts (omega arith) in
    counted-push c.args.self.now _ c.args.joined c.requires.counted c.requires.room c.requires.within
    c.in_ok-push.ensures.items
    (let e = ap length d in let k = c.args.self.now.degrees.ok.0 in omega (arith, e, k))
    (let e = ap length s in let k = c.args.self.now.sums.ok.0 in omega (arith, e, k))
    (λ x.
    let a = ap (λ xs. slice_index xs x) d in
    let b = c.add_ends.ensures x in
    let v = ap (λ xs. slice_index xs x) c.deref_mut.ensures.value in
    let e = ap (λ o. share o x 1) c.in-Some.is in
    omega (arith, a, b, v, e))
    (λ x.
    let a = ap (λ xs. slice_index xs x) s in
    let b = c.add_ends-in-Some.ensures x in
    let v = ap (λ xs. slice_index xs x) c.deref_mut-in-Some.ensures.value in
    let e = ap (λ o. share o x (length c.args.self.now.links.items)) c.in-Some.is in
    let n : c.len-link.result ≡ length c.args.self.now.links.items = let k = c.args.self.now.links.ok.0 in let l =
    c.len-link.ensures in omega (arith, k, l) in
    let m = ap (λ k. share (Some c.in-Some.ends) x k) n in
    omega (arith, a, b, v, e, m))
