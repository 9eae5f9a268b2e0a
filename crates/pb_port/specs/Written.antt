-- The reading of what is written.
use Rattle.std.specs.Prelude.{ℕ, ◌<◌, Bool, true, false, List, [], ◌∷◌, ◌++◌, length, ⊤, None}
use Rattle.pb_port.specs.declared.stream_position.ByteOrder.TheVariants.{Little}
use Rattle.pb_port.specs.declared.stream_position.StreamPosition.{StreamPosition}
use Rattle.pb_port.specs.declared.stream_position.StreamPosition.TheVariants.{Header, Records, Lengths}
use Rattle.pb_port.specs.declared.framing.Framing.{Framing}
use Rattle.pb_port.specs.declared.framing.Framing.TheVariants.{Capture, Socket}
use Rattle.pb_port.specs.Ports.{Frames}
use Rattle.pb_port.specs.Spelling.{spelled}
use Rattle.pb_port.specs.Whole.{IsStream}

-- the position of a reader, before the first frame was written and after it
abbrev pub position_of : Framing → Bool → StreamPosition
position_of Capture true = Header
position_of Capture false = Records Little
position_of (Socket field) fresh = Lengths field

-- the octets of frames, each begun at its own microsecond
abbrev pub spelled_all : Framing → Bool → List (ℕ × List ℕ) → List ℕ
spelled_all framing fresh [] = []
spelled_all framing fresh ((micros, f) ∷ more) = spelled framing fresh micros f ++ spelled_all framing false more

abbrev pub frames_of : List (ℕ × List ℕ) → Frames
frames_of [] = []
frames_of ((micros, f) ∷ more) = f ∷ frames_of more

-- no frame is longer than 65,535 octets
abbrev pub AreShort : List (ℕ × List ℕ) → Type 0
AreShort [] = ⊤
AreShort ((micros, f) ∷ more) = (length f < 65536) × AreShort more

-- at least one frame that is written is read as the same frames, with nothing skipped and no fault
abbrev pub WrittenIsRead : Type 0
WrittenIsRead =
    (framing : Framing) (micros : ℕ) (f : List ℕ) (more : List (ℕ × List ℕ)) → AreShort ((micros, f) ∷ more)
    → IsStream (position_of framing true) (spelled_all framing true ((micros, f) ∷ more)) (frames_of ((micros, f) ∷ more)) 0 None
