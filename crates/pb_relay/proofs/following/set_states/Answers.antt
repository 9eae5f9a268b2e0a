use Rattle.std.proofs.Common.{◌-◌, get_or, take, set, ap, sym, ◌∙◌}
use Rattle.std.proofs.lemmas.List.{take_more, length-set}
use Rattle.pb_lan.specs.declared.shape.PortState.TheVariants.{Discarding}
use Rattle.pb_relay.specs.Moves.{states_changed}
use Rattle.pb_relay.proofs.MovedLemmas.{states_changed-more}
use Rattle.pb_relay.proofs.following.set_states.Goals as goal

pub loop-port-preserved : goal.loop-port-preserved
loop-port-preserved c =
    let i = c.loop-port.port-index in
    let x = get_or c.args.changes.now i (0, Discarding) in (
      ap (λ k. set c.loop-port.states k x.1) c.index_of.ensures
          ∙ ap (λ ss. set ss (x.0 - 1) x.1) c.loop-port.invariant.0
          ∙ sym (states_changed-more c.args.states.now (take i c.args.changes.now) x.0 x.1)
          ∙ ap (states_changed c.args.states.now)
          (sym (take_more c.args.changes.now i (0, Discarding) c.loop-port-test.true)),
      length-set _ _ _ ∙ c.loop-port.invariant.1,
    )
