-- The workers of places and their rings.
use Rattle.std.specs.Prelude.{◌≡◌, ℕ, ◌-◌, ◌<◌, ◌≤◌, Bool, true, [], map, vec_len, slice_index_or}
use Rattle.rtrb.specs.Ring.{sent, received as received_over}
use Rattle.pb_ring.specs.Rings.{shown_at}
use Rattle.pb_ring.specs.declared.ends.Wiring.{Ghosts}
use Rattle.pb_ring.specs.declared.sides.Inlets.{Inlets}
use Rattle.pb_ring.specs.declared.sides.Outlets.{Outlets}
use Rattle.pb_port.specs.declared.port.Port.{Ghosts as PortGhosts}
use Rattle.pb_workers.specs.Ports.{KeepsPort, port_frames}
use Rattle.pb_workers.specs.Settings.{settings}
use Rattle.pb_workers.specs.declared.access.Access.{Access}
use Rattle.pb_workers.specs.declared.bridge.BridgeWorker.{BridgeWorker}
use Rattle.pb_workers.specs.declared.customer.CustomerWorker.{CustomerWorker}
use Rattle.pb_workers.specs.declared.lane.LaneWorker.{LaneWorker}
use Rattle.pb_workers.specs.declared.mode.Mode.{Mode}

-- places over rings may work in this mode: they keep their steps and wait for full queues if the rings require it, and
-- set ports only if the rings allow it
pub record IsModeFor (keeps sets waits : Bool) (mode : Mode) : Type 0 where
  pub kept : keeps ≡ true → mode.keeps ≡ true
  pub set : mode.sets ≡ true → sets ≡ true
  pub waited : waits ≡ true → mode.waits ≡ true

-- a bridge has as many rings to send as to receive, and nothing has passed them
pub record AreNewSides {X : Type 0} {W : Ghosts X} (ins : Inlets X W) (outs : Outlets X W) : Type 0 where
  pub sides : vec_len outs.ends ≡ vec_len ins.ends
  pub came : (q : ℕ) → shown_at (λ i. received_over i.end) ins.ends.items q ≡ []
  pub went : (q : ℕ) → shown_at (λ o. sent o.end) outs.ends.items q ≡ []

-- the access keeps the number of its place, the numbers of its rings, and its book
pub record IsSameAccess {X : Type 0} {W : Ghosts X} (old new : Access X W) : Type 0 where
  pub place : new.place.number ≡ old.place.number
  pub feed : new.feed.number ≡ old.feed.number
  pub drain : new.drain.number ≡ old.drain.number
  pub book : new.book ≡ old.book

-- a customer port's worker keeps the port as it was given, and the numbers of its place, its book and its rings
pub record IsSameCustomer {X P : Type 0} {W : Ghosts X} (old new : CustomerWorker X P W) : Type 0 where
  pub was : new.was ≡ old.was
  pub place : new.access.place.number ≡ old.access.place.number
  pub book : new.access.book.number ≡ old.access.book.number
  pub feed : new.access.feed.number ≡ old.access.feed.number
  pub drain : new.access.drain.number ≡ old.access.drain.number

-- what the worker's port gave to the worker is what entered, and what it took from the worker is what left
abbrev pub IsPortKept : {X P : Type 0} {W : Ghosts X} → PortGhosts P → CustomerWorker X P W → Type 0
IsPortKept port worker =
    KeepsPort (port_frames port worker.was.value) (port_frames port worker.port) worker.access.place.steps worker.access.book.last

-- a lane's worker keeps its number, the numbers of its rings, and the losses of its lane
pub record IsSameLane {X P : Type 0} {W : Ghosts X} (old new : LaneWorker X P W) : Type 0 where
  pub number : new.number ≡ old.number
  pub from : new.from.number ≡ old.from.number
  pub to : new.to.number ≡ old.to.number
  pub losses : new.lane.losses ≡ old.lane.losses

-- a bridge's worker keeps its number, its ports and the numbers of its rings, and its bridge keeps its plan and its
-- number and sets no port
pub record IsSameBridge {X : Type 0} {W : Ghosts X} (old new : BridgeWorker X W) : Type 0 where
  pub number : new.number ≡ old.number
  pub plan : new.bridge.plan ≡ old.bridge.plan
  pub bridge : new.bridge.number ≡ old.bridge.number
  pub ports : new.ports ≡ old.ports
  pub count : vec_len new.ins.ends ≡ vec_len old.ins.ends
  pub ins : map (λ i. i.number) new.ins.ends.items ≡ map (λ i. i.number) old.ins.ends.items
  pub outs : map (λ o. o.number) new.outs.ends.items ≡ map (λ o. o.number) old.outs.ends.items
  pub settings : settings new.bridge.steps ≡ settings old.bridge.steps

-- a bridge's worker keeps its number and its ports, its bridge keeps its plan and its number, and its rings are
-- unchanged
pub record KeepsRings {X : Type 0} {W : Ghosts X} (old new : BridgeWorker X W) : Type 0 where
  pub number : new.number ≡ old.number
  pub plan : new.bridge.plan ≡ old.bridge.plan
  pub bridge : new.bridge.number ≡ old.bridge.number
  pub ports : new.ports ≡ old.ports
  pub ins : new.ins ≡ old.ins
  pub outs : new.outs ≡ old.outs

-- a bridge's worker has two rings at a local port: it receives by the first of these numbers, and sends by the second
pub record HasRings {X : Type 0} {W : Ghosts X} (worker : BridgeWorker X W) (at receives sends : ℕ) : Type 0 where
  pub port : (0 < at) × (at ≤ vec_len worker.ins.ends)
  pub into : slice_index_or (map (λ i. i.number) worker.ins.ends.items) (at - 1) 0 ≡ receives
  pub out : slice_index_or (map (λ o. o.number) worker.outs.ends.items) (at - 1) 0 ≡ sends
