use Rattle.std.proofs.Common.{arith}
use Rattle.pb_forest.proofs.GraphLemmas.{at-same}
use Rattle.pb_forest.proofs.graph.take_ends.Goals as goal

pub take_at-requires-clause-fits : goal.take_at-requires-clause-fits
take_at-requires-clause-fits c = let f = c.requires.fits c.args.ends.a in let s = at-same c.args.ends.a c.args.n
    in omega (arith, f, s)

pub take_at-requires-2-clause-fits : goal.take_at-requires-2-clause-fits
take_at-requires-2-clause-fits c =
    let f = c.requires.fits c.args.ends.b in
    let s = at-same c.args.ends.b c.args.n in
    let a = c.take_at.ensures c.args.ends.b in
    omega (arith, f, s, a)
