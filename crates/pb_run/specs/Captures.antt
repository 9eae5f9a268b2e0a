-- The captures of a port of a run, whose devices tell their octets.
use Rattle.std.specs.Prelude.{◌≡◌, true, List, ℕ, [], ◌++◌, Some}
use Rattle.pb_lan.specs.Counts.{entered, left}
use Rattle.pb_lan.specs.declared.step.Step.{Step}
use Rattle.pb_port.specs.Inputs.{decoded}
use Rattle.pb_port.specs.Outputs.{OutputState}
use Rattle.pb_port.specs.declared.framing.Framing.TheVariants.{Capture}
use Rattle.pb_port.specs.declared.stream_position.StreamPosition.TheVariants.{Header}
use Rattle.pb_workers.specs.Ports.{Frames, PortFrames, KeepsPort, IsReadUp}
use Rattle.pb_workers.specs.declared.access.Last.{Last}

-- an empty capture that is to be written
abbrev pub empty_capture : OutputState
empty_capture = record { framing = Capture; fresh = true; begun = []; written = [] }

-- a port before a capture of these octets, which it reads, and before an empty one, which it writes
pub record StartsAt (port : PortFrames) (octets : List ℕ) : Type 0 where
  pub unread : port.unread ≡ Some (decoded Header octets)
  pub output : port.output ≡ Some empty_capture
  pub waiting : port.waiting ≡ []

-- the frames in the capture that was read begin with those that entered, and are these after the end or a fault of the
-- octets. The frames in the capture that was written are those that left and do not wait
pub record CarriesCaptures (port : PortFrames) (octets : List ℕ) (steps : List Step) (last : Last) : Type 0 where
  pub unread : Frames
  pub reads : decoded Header octets ≡ entered steps ++ unread
  pub read_up : IsReadUp last unread
  pub output : OutputState
  pub output_is : port.output ≡ Some output
  pub sent : Frames
  pub sent_are : sent ++ port.waiting ≡ left steps
  pub writes : decoded Header output.written ≡ sent

-- so does each port of a run that starts so
abbrev pub RunsCarryCaptures : Type 0
RunsCarryCaptures =
    (was port : PortFrames) (octets : List ℕ) (steps : List Step) (last : Last) → StartsAt was octets
    → KeepsPort was port steps last → CarriesCaptures port octets steps last
