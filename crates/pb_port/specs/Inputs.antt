-- The frames in the octets that a reader has not read yet.
use Rattle.std.specs.Prelude.{ℕ, List, [], Option, Some, None}
use Rattle.pb_port.specs.declared.answers.Ending.{Ending}
use Rattle.pb_port.specs.declared.answers.Ending.TheVariants.{End, Fault}
use Rattle.pb_port.specs.declared.fault.PortFault.{PortFault}
use Rattle.pb_port.specs.declared.fault.PortFault.TheVariants.{Read, Write, Memory}
use Rattle.pb_port.specs.declared.reader.FrameReader.{FrameReader}
use Rattle.pb_port.specs.declared.stream_position.StreamPosition.{StreamPosition}
use Rattle.pb_port.specs.Polling.{unread_of}
use Rattle.pb_port.specs.Ports.{Frames}
use Rattle.pb_port.specs.Whole.{IsStream}
use Rattle.pb_port.specs.Readable.{reading_of}

-- the frames in an input: those of its reading
pub decoded : StreamPosition → List ℕ → Frames
decoded position octets = (reading_of position octets).frames

-- each input has a reading, with these frames
abbrev pub EachIsRead : Type 0
EachIsRead =
    (position : StreamPosition) (octets : List ℕ)
    → (skipped : ℕ) × (fault : Option PortFault) × IsStream position octets (decoded position octets) skipped fault

pub each_is_read : EachIsRead
unfolding decoded
each_is_read position octets = let r = reading_of position octets in (r.skipped, r.fault, r.is)

-- the frames that still come of those in the octets: none after the end or a fault of the octets
abbrev pub still_to_come : Option Ending → Frames → Frames
still_to_come None frames = frames
still_to_come (Some End) frames = []
still_to_come (Some (Fault Read)) frames = frames
still_to_come (Some (Fault Write)) frames = frames
still_to_come (Some (Fault Memory)) frames = frames
still_to_come (Some (Fault k)) frames = []

-- the same, if the octets are known
abbrev pub frames_left : Option Ending → StreamPosition → Option (List ℕ) → Option Frames
frames_left ended position None = None
frames_left ended position (Some octets) = Some (still_to_come ended (decoded position octets))

-- the frames in the unread octets of a reader over a device, if they are known
abbrev pub unread_frames : FrameReader → Option (List ℕ) → Option Frames
unread_frames r device = frames_left r.ended r.position (unread_of r device)
