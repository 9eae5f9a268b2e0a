-- The reading of a complete input.
use Rattle.std.specs.Prelude.{◌≡◌, ℕ, ◌+◌, List, [], ◌∷◌, ◌++◌, Option, None}
use Rattle.pb_port.specs.declared.fault.PortFault.{PortFault}
use Rattle.pb_port.specs.declared.stream_position.StreamPosition.{StreamPosition}
use Rattle.pb_port.specs.Ports.{Frames}
use Rattle.pb_port.specs.Streams.{Passes, IsFrame, fault_at}

-- at this position the input ends, or the remaining octets have this fault
abbrev pub Ends : StreamPosition → List ℕ → Option PortFault → Type 0
Ends position rest fault = (fault_at position rest ≡ fault) × (fault ≡ None → rest ≡ [])

-- the reading of an input: its frames in order, the number of its skipped records, and its fault or its end
abbrev pub IsStream : StreamPosition → List ℕ → Frames → ℕ → Option PortFault → Type 0
IsStream position octets [] skipped fault =
    (position' : StreamPosition) × (front : List ℕ) × (rest : List ℕ) × Passes position front position' skipped
    × (octets ≡ front ++ rest) × Ends position' rest fault
IsStream position octets (f ∷ fs) skipped fault =
    (position' : StreamPosition) × (front : List ℕ) × (part : List ℕ) × (rest : List ℕ) × (n : ℕ) × (more : ℕ)
    × Passes position front position' n × IsFrame position' part f × (octets ≡ front ++ (part ++ rest))
    × IsStream position' rest fs more fault × (skipped ≡ n + more)

-- an input has a reading with these frames
pub record Reading (position : StreamPosition) (octets : List ℕ) : Type 0 where
  pub frames : Frames
  pub skipped : ℕ
  pub fault : Option PortFault
  pub is : IsStream position octets frames skipped fault

-- two readings of one input are the same
abbrev pub HasOneReading : Type 0
HasOneReading =
    (position : StreamPosition) (octets : List ℕ) (fs gs : Frames) (m n : ℕ) (fault fault' : Option PortFault)
    → IsStream position octets fs m fault → IsStream position octets gs n fault'
    → (fs ≡ gs) × (m ≡ n) × (fault ≡ fault')
