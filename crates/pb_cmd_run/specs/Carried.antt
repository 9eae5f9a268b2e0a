-- The captures that the ports of a run read and wrote, as far as their octets are known.
use Rattle.std.specs.Prelude.{◌≡◌, ◌≢◌, ◌<◌, ℕ, Bool, true, false, Option, Some, None, List, [], ◌∷◌, ◌++◌, map, unwrap_or, ⊤}
use Rattle.std.specs.Prelude.{IfSome, is_some}
use Rattle.pb_lan.specs.Counts.{entered, left}
use Rattle.pb_lan.specs.Numbering.{numbered}
use Rattle.pb_lan.specs.Records.{steps_of}
use Rattle.pb_lan.specs.declared.step.Step.{Step}
use Rattle.pb_port.specs.Inputs.{decoded}
use Rattle.pb_port.specs.Outputs.{OutputState}
use Rattle.pb_port.specs.Written.{frames_of, spelled_all}
use Rattle.pb_port.specs.declared.framing.Framing.TheVariants.{Capture as captured}
use Rattle.pb_port.specs.declared.stream_position.StreamPosition.TheVariants.{Header}
use Rattle.pb_run.specs.Captures.{empty_capture}
use Rattle.pb_run.specs.Runs.{last_of}
use Rattle.pb_run_ports.specs.Opened.{asked, octets_in, script_in}
use Rattle.pb_service.specs.declared.port_spec.PortSpec.{PortSpec}
use Rattle.pb_workers.specs.Ports.{Frames, PortFrames, IsReadUp}
use Rattle.pb_workers.specs.declared.access.Last.{Last}
use Rattle.pb_cmd_run.specs.Unsent.{HaveGoneOn, waiting_of}

-- the octets of the file at each path, if they are known
abbrev pub FileOctets : Type 0
FileOctets = List ℕ → Option (List ℕ)

-- no octets are known
abbrev pub unknown : FileOctets
unknown path = None

-- the frames in a capture, if its octets are known
abbrev pub frames_in : Option (List ℕ) → Option Frames
frames_in None = None
frames_in (Some octets) = Some (decoded Header octets)

-- the octets of a file that are not read yet, if there is a file and they are known
abbrev pub octets_of : {I : Type 0} → (I → Option (List ℕ)) → Option I → Option (List ℕ)
octets_of unread (Some input) = unread input
octets_of unread None = None

-- the output of a port before it writes, if it writes a capture and reports its octets
abbrev pub started : Bool → Bool → Option OutputState
started true true = Some empty_capture
started true false = None
started false reports = None

-- what the port of this number has, if it has it
abbrev pub found : {X : Type 0} → List (Option X) → ℕ → Option X
found things number = unwrap_or (numbered things number) None

-- the path of the file that a port writes, if it writes one
abbrev pub written_path : PortSpec → Option (List ℕ)
written_path spec = (asked spec).write

-- the ports of a plan before a run: they have the frames that the plan lists, and those in the files that they read, as
-- far as these are known, and nothing is written yet
pub record StartOver (reports : Bool) (was : FileOctets) (specs : List PortSpec) (scripts unread : List (Option Frames)) (outputs : List (Option OutputState)) (paths : List (Option (List ℕ))) : Type 0 where
  pub scripts_are : scripts ≡ map script_in specs
  pub unread_are : unread ≡ map (λ spec. frames_in (octets_in was spec)) specs
  pub outputs_are : outputs ≡ map (λ spec. started (is_some (written_path spec)) reports) specs
  pub paths_are : paths ≡ map written_path specs

-- no port after the one of this number writes the file at the path
abbrev pub IsLast : List (Option (List ℕ)) → ℕ → List ℕ → Type 0
IsLast paths number path = (later : ℕ) → number < later → found paths later ≢ Some path

-- the frames that entered are the first in the capture that was read, and all of them after the end or a fault of the
-- octets
abbrev pub ReadsFile : Option (List ℕ) → Frames → Last → Type 0
ReadsFile None frames last = ⊤
ReadsFile (Some octets) frames last = (unread : Frames) × (decoded Header octets ≡ frames ++ unread) × IsReadUp last unread

-- the octets are the encoding of these frames as a capture, each with its own time, up to a beginning of the next
pub record IsCaptureOf (octets : List ℕ) (frames : Frames) : Type 0 where
  pub stamped : List (ℕ × List ℕ)
  pub frames_are : frames_of stamped ≡ frames
  pub begun : List ℕ
  pub octets_are : octets ≡ spelled_all captured true stamped ++ begun

-- the frames in the capture that was written, followed by those that still wait, are those that left, and the capture is
-- their encoding
abbrev pub WritesFile : Option (List ℕ) → Frames → Frames → Type 0
WritesFile None waiting frames = ⊥
WritesFile (Some octets) waiting frames =
    (decoded Header octets ++ waiting ≡ frames) × ∥ IsCaptureOf octets (decoded Header octets) ∥₁

-- at each port that reads a file of known octets the frames that entered were in it. If the ports report their octets,
-- each port that writes a file, which no later port writes, left there the frames that left it, but for those that wait
pub record AreCarried (reports : Bool) (was now : FileOctets) (specs : List PortSpec) (customers : List (List Step)) (lasts : List Last) (unsent : List Frames) : Type 0 where
  pub reads : (number : ℕ) → ReadsFile (found (map (octets_in was) specs) number) (entered (steps_of customers number)) (last_of lasts number)
  pub writes : reports ≡ true → (number : ℕ) (path : List ℕ) → found (map written_path specs) number ≡ Some path
      → IsLast (map written_path specs) number path
      → WritesFile (now path) (waiting_of unsent number) (left (steps_of customers number))

-- a port was closed: the file at its path, if it writes one, has the octets that the port wrote, if those are known, and
-- the others are the same
abbrev pub ClosesOne : FileOctets → FileOctets → Option OutputState → Option (List ℕ) → Type 0
ClosesOne was now output None = now ≡ was
ClosesOne was now output (Some path) =
    IfSome output (λ o. now path ≡ Some o.written) × ((other : List ℕ) → other ≢ path → now other ≡ was other)

-- ports with these outputs and paths were closed, one after the other
abbrev pub Closes : FileOctets → FileOctets → List (Option OutputState) → List (Option (List ℕ)) → Type 0
Closes was now (output ∷ outputs) (path ∷ paths) =
    (mid : FileOctets) × ClosesOne was mid output path × Closes mid now outputs paths
Closes was now _ _ = now ≡ was

-- these ports were closed
pub record AreClosed (was now : FileOctets) (outputs : List (Option OutputState)) (paths : List (Option (List ℕ))) : Type 0 where
  pub closes : Closes was now outputs paths

-- ports have gone on after a run, and were closed, with these frames left in them
pub record HaveClosed (ports : List PortFrames) (unsent : List Frames) (now : FileOctets) (paths : List (Option (List ℕ))) : Type 0 where
  pub last : List PortFrames
  pub went_on : HaveGoneOn ports last
  pub unsent_are : unsent ≡ map (λ port. port.waiting) last
  pub was : FileOctets
  pub closed : AreClosed was now (map (λ port. port.output) last) paths
