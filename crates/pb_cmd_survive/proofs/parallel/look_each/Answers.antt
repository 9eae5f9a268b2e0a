use Rattle.std.proofs.Common.{IfOk, Ok, ◌∙◌}
use Rattle.rayon.proofs.ToStd.{slice-AllZip}
use Rattle.pb_cmd_survive.proofs.ListLemmas.{gathered}
use Rattle.pb_cmd_survive.proofs.parallel.look_each.Goals as goal

pub returns-in-Ok : goal.returns-in-Ok
returns-in-Ok g c =
    let those = c.args.those.now in
    let look = c.args.look.now in
    let found = c.in-Ok.ensures in
    let chain = rw (c.map.ensures.base, c.map.ensures.f, c.with_min_len.ensures.base) at found.1 in
    gathered (λ x y. goal.F-post g look x (Ok y)) (λ v. v.items) those found.0 c.in-Ok.ys
    (slice-AllZip chain.0 those (chain.1 ∙ c.par_iter.ensures) (λ x r. IfOk r (λ y. goal.F-post g look x (Ok y)))
    found.0 chain.2)
    found.2
