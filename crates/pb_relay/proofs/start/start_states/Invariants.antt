use Rattle.std.proofs.Common.{◌≡◌, ℕ, ◌<◌, get_or, length}
use Rattle.pb_lan.specs.declared.shape.PortState.TheVariants.{Discarding}
use Rattle.pb_relay.specs.PortKinds.{told}
use Rattle.pb_relay.specs.PortKinds.LocalPort.{ToNobody}
use Rattle.pb_relay.specs.Starts.{first_state}
use Rattle.pb_relay.proofs.start.start_states.Given as goal

abbrev pub invariant-loop-r : goal.invariant-loop-r
invariant-loop-r l =
    (length l.states ≡ 16) × ((k : ℕ) → k < l.r → get_or l.states k Discarding ≡ first_state l.spanning
    (told (get_or l.ports k ToNobody)))
