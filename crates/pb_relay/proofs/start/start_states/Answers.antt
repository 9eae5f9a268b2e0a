use Rattle.std.proofs.Common.{arith, ap, ◌∙◌, length-set}
use Rattle.pb_relay.proofs.StartLemmas.{states_more, states_all}
use Rattle.pb_relay.specs.Starts.{first_state}
use Rattle.pb_relay.proofs.start.start_states.Goals as goal

pub loop-r-preserved : goal.loop-r-preserved
loop-r-preserved c =
    let here = c.start_state.ensures ∙ ap (first_state c.args.spanning) c.at.ensures in (
      length-set _ _ _ ∙ c.loop-r.invariant.0,
      states_more c.args.spanning c.loop-r.states c.args.ports.now c.loop-r.r c.start_state.result
          (omega (arith, c.loop-r.invariant.0, c.loop-r-test.true)) c.loop-r.invariant.1 here,
    )

pub returns : goal.returns
returns c = states_all c.args.spanning c.loop-r.states c.args.ports.now c.loop-r.invariant.0 c.requires
    (λ k l. c.loop-r.invariant.1 k (omega (arith, c.loop-r-test.false)))
