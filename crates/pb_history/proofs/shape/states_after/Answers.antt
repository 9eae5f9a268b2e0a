use Rattle.std.proofs.Common.{◌++◌, ◌∷◌, [], List, map, take, sym, ap, ◌∙◌}
use Rattle.pb_lan.specs.Ports.{local_ports}
use Rattle.pb_lan.specs.Shapes.{state_after}
use Rattle.pb_lan.specs.declared.shape.PortState.{PortState}
use Rattle.pb_lan.proofs.StateLemmas.{numbers-more}
use Rattle.pb_history.proofs.shape.states_after.Goals as goal

pub loop-place-preserved : goal.loop-place-preserved
loop-place-preserved c =
    let f = state_after c.args.plan.now c.args.bridge c.args.tally.now in
    let k = c.loop-place.place in
    c.in_ok-push.ensures.items ∙ ap (λ (xs : List PortState). xs ++ c.state_after.result ∷ []) c.loop-place.invariant
    ∙ ap (λ (s : PortState). map f (take k local_ports) ++ s ∷ []) c.state_after.ensures
    ∙ sym (numbers-more f 1 k local_ports c.loop-place-test.true)
