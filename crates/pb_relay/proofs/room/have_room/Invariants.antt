use Rattle.std.proofs.Common.{◌≡◌, ◌-◌, false, nat_le, take}
use Rattle.std.specs.List.{list_any}
use Rattle.pb_relay.specs.Backlogs.{at_place}
use Rattle.pb_relay.specs.Classes.{number_in}
use Rattle.pb_relay.proofs.room.have_room.Given as goal

abbrev pub invariant-loop-port : goal.invariant-loop-port
invariant-loop-port l =
    list_any (λ p. nat_le l.queue (number_in (at_place l.backlog (p - 1)))) (take l.port-index l.port-items) ≡ false
