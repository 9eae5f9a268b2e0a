use Rattle.std.proofs.Common.{◌≡◌, length, take}
use Rattle.pb_relay.specs.Moves.{states_changed}
use Rattle.pb_relay.proofs.following.set_states.Given as goal

abbrev pub invariant-loop-port : goal.invariant-loop-port
invariant-loop-port l = (l.states ≡ states_changed l.initial.states (take l.port-index l.changes))
    × (length l.states ≡ 16)
