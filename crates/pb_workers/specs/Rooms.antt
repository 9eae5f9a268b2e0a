-- What a bridge's worker may receive.
use Rattle.std.specs.Prelude.{ℕ, Bool, true, if◌then◌else◌}
use Rattle.pb_lan.specs.declared.step.Item.{Item}
use Rattle.pb_relay.specs.Room.{has_room_for}
use Rattle.pb_ring.specs.declared.ends.Wiring.{Ghosts}
use Rattle.pb_workers.specs.declared.bridge.BridgeWorker.{BridgeWorker}

-- the worker may receive the item at a port: if items wait for full queues, each port to which the bridge relays it has
-- room for one more
abbrev pub may_receive : {X : Type 0} {W : Ghosts X} → BridgeWorker X W → ℕ → Item → Bool
may_receive worker port item =
    if worker.waits
    then has_room_for worker.bridge.plan worker.bridge.number worker.bridge.steps worker.queue port item
    else true
