-- Successive polls of one input, up to its end or its fault.
use Rattle.std.specs.Prelude.{◌≡◌, ℕ, List, [], ◌∷◌, Option, Some, None}
use Rattle.pb_port.specs.declared.fault.PortFault.{PortFault}
use Rattle.pb_port.specs.declared.fault.PortFault.TheVariants.{Memory}
use Rattle.pb_port.specs.Faults.{IsOfOctets}
use Rattle.pb_port.specs.declared.stream_position.StreamPosition.{StreamPosition}
use Rattle.pb_port.specs.declared.answers.Polled.{Polled}
use Rattle.pb_port.specs.declared.answers.Polled.TheVariants.{Frame, Nothing, End, Fault}
use Rattle.pb_port.specs.Ports.{Frames}
use Rattle.pb_port.specs.Reading.{Polls, held_sum}
use Rattle.pb_port.specs.Whole.{IsStream}

-- the frames among the results, up to the end or a fault other than a failed allocation
abbrev pub frames_in : List Polled → Frames
frames_in [] = []
frames_in (Frame f ∷ answers) = f ∷ frames_in answers
frames_in (Nothing ∷ answers) = frames_in answers
frames_in (End ∷ answers) = []
frames_in (Fault Memory ∷ answers) = frames_in answers
frames_in (Fault k ∷ answers) = []

-- each poll continues at the position of the one before, and one of them returns the end, or this fault of the octets
abbrev pub IsRun : List Polled → StreamPosition → List ℕ → ℕ → ℕ → Option PortFault → Type 0
IsRun [] position octets skipped skipped' fault = ⊥
IsRun (Frame f ∷ answers) position octets skipped skipped' fault =
    (p : StreamPosition) × (rest : List ℕ) × (n : ℕ) × Polls (Frame f) position (Some octets) p (Some rest) skipped n
    × IsRun answers p rest n skipped' fault
IsRun (Nothing ∷ answers) position octets skipped skipped' fault =
    (p : StreamPosition) × (rest : List ℕ) × (n : ℕ) × Polls Nothing position (Some octets) p (Some rest) skipped n
    × IsRun answers p rest n skipped' fault
IsRun (End ∷ answers) position octets skipped skipped' fault =
    (p : StreamPosition) × (rest : List ℕ) × Polls End position (Some octets) p (Some rest) skipped skipped' × (fault ≡ None)
IsRun (Fault Memory ∷ answers) position octets skipped skipped' fault =
    (p : StreamPosition) × (rest : List ℕ) × (n : ℕ) × Polls (Fault Memory) position (Some octets) p (Some rest) skipped n
    × IsRun answers p rest n skipped' fault
IsRun (Fault k ∷ answers) position octets skipped skipped' fault =
    (p : StreamPosition) × (rest : List ℕ) × Polls (Fault k) position (Some octets) p (Some rest) skipped skipped'
    × IsOfOctets k × (fault ≡ Some k)

-- the results of a run are the reading of its input
abbrev pub RunsReadStreams : Type 0
RunsReadStreams =
    (answers : List Polled) (position : StreamPosition) (octets : List ℕ) (skipped skipped' : ℕ) (fault : Option PortFault)
    → IsRun answers position octets skipped skipped' fault
    → (n : ℕ) × IsStream position octets (frames_in answers) n fault × (skipped' ≡ held_sum skipped n)
