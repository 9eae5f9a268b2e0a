use Rattle.std.proofs.Common.{◌≡◌, ◌+◌, ◌∷◌, ◌∙◌, ap, drop, map, sym}
use Rattle.std.proofs.lemmas.List.{drop_more}
use Rattle.pb_run_ports.specs.Opened.{emptied, emptying, shown}
use Rattle.pb_run_ports.proofs.DeedLemmas.{begun_more}
use Rattle.pb_run_ports.proofs.opened.empty_outs.Goals as goal

pub loop-place-preserved : goal.loop-place-preserved
loop-place-preserved g c =
    let ports = c.args.ports.now in
    let left = drop (c.loop-place.place + 1) ports in
    let port = c.index-ports-place.result in
    let next : drop c.loop-place.place ports ≡ port ∷ left =
    drop_more ports c.loop-place.place port c.loop-place-test.true ∙ ap (λ p. p ∷ left) (sym c.index-ports-place.is) in
    begun_more _ _ _ _ _ (emptying (shown port).write) (emptied (map shown left)) c.loop-place.invariant
    (ap (λ ports. emptied (map shown ports)) next) c.in_ok-empty_out.ensures.ok
