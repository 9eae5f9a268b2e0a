-- The frames that begin in some octets of a socket stream.
use Rattle.std.specs.Prelude.{◌≡◌, ℕ, ◌+◌, List, length, Option, Some, None}
use Rattle.pb_port.specs.declared.fault.PortFault.{PortFault}
use Rattle.pb_port.specs.declared.framing.LengthField.{LengthField}
use Rattle.pb_port.specs.declared.stream_position.StreamPosition.TheVariants.{Lengths}
use Rattle.pb_port.specs.Ports.{Frames}
use Rattle.pb_port.specs.Whole.{IsStream}

-- the number of frames that are cut off at the end of octets with this fault
abbrev pub cut_count : Option PortFault → ℕ
cut_count None = 0
cut_count (Some k) = 1

-- so many frames begin in the octets: the whole ones, and one that is cut off at the end
abbrev pub Begins : LengthField → List ℕ → ℕ → Type 0
Begins field octets n =
    (frames : Frames) × (fault : Option PortFault) × IsStream (Lengths field) octets frames 0 fault
    × (n ≡ length frames + cut_count fault)
