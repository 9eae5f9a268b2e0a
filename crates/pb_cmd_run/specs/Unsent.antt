-- The frames that ports hold after a run.
use Rattle.std.specs.Prelude.{ℕ, List, [], unwrap_or}
use Rattle.pb_datagram.specs.declared.datagram_port.DatagramPort.{DatagramPort}
use Rattle.pb_lan.specs.Counts.{left}
use Rattle.pb_lan.specs.Numbering.{numbered}
use Rattle.pb_lan.specs.Records.{steps_of}
use Rattle.pb_lan.specs.declared.step.Step.{Step}
use Rattle.pb_port.specs.declared.memory.MemoryPort.{MemoryPort}
use Rattle.pb_port.specs.declared.socket.SocketPort.{SocketPort}
use Rattle.pb_port.specs.declared.staying.StayingPort.{StayingPort}
use Rattle.pb_port.specs.Outputs.{IsWrittenTo}
use Rattle.pb_run.specs.Runs.{port_of}
use Rattle.pb_workers.specs.Ports.{Frames, PortFrames, HasSent}
use Rattle.pb_cmd_run.specs.AnyPorts.{of_any}
use Rattle.pb_cmd_run.specs.declared.any_port.AnyPort.{AnyPort}

-- the frames that wait in a port, if a port over files has these
abbrev pub waiting_at : {F S L D : Type 0} → (F → Frames)
    → AnyPort MemoryPort F (SocketPort S) (StayingPort L) (DatagramPort D) → Frames
waiting_at {F} {S} {L} {D} waiting = of_any (λ (port : MemoryPort). port.unsent.items)
    waiting (λ (port : SocketPort S). port.sender.unsent.items)
    (λ (port : StayingPort L). port.sender.unsent.items) (λ (port : DatagramPort D). port.outbox.unsent.items)

-- the frames that wait in the port of this number
abbrev pub waiting_of : List Frames → ℕ → Frames
waiting_of lists number = unwrap_or (numbered lists number) []

-- of the frames that left at each port the first were sent, and its port holds the others
pub record AreUnsent (unsent : List Frames) (customers : List (List Step)) : Type 0 where
  pub each : (number : ℕ) → HasSent (left (steps_of customers number)) (waiting_of unsent number)

-- of the frames that waited in a port the first were sent, and the others wait. What the port wrote meanwhile is the
-- encoding of those that were sent, if its octets are known
pub record GoesOn (old new : PortFrames) : Type 0 where
  pub unsent : HasSent old.waiting new.waiting
  pub wrote : IsWrittenTo old.output new.output unsent.sent

-- each port has gone on so
pub record HaveGoneOn (before after : List PortFrames) : Type 0 where
  pub each : (number : ℕ) → GoesOn (port_of before number) (port_of after number)
