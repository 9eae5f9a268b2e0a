-- The octets that a port writes, and the frames that it sends by them.
use Rattle.std.specs.Prelude.{◌≡◌, ℕ, Bool, List, [], ◌++◌, length, Option, Some, None, ⊤}
use Rattle.pb_port.specs.declared.framing.Framing.{Framing}
use Rattle.pb_port.specs.declared.sender.Sender.{Sender}
use Rattle.pb_port.specs.Inputs.{decoded}
use Rattle.pb_port.specs.Ports.{Frames}
use Rattle.pb_port.specs.Sending.{begun, fresh_after}
use Rattle.pb_port.specs.Written.{spelled_all, frames_of, position_of, AreShort}

-- the output of a port: the way in which its frames are written, whether none was begun, the octets that were written
-- of the first frame that waits, and all octets that were written
pub record OutputState : Type 0 where
  pub framing : Framing
  pub fresh : Bool
  pub begun : List ℕ
  pub written : List ℕ

-- the output of a sender over a device, if its octets are known
abbrev pub output_of : Sender → Option (List ℕ) → Option OutputState
output_of w None = None
output_of w (Some octets) = Some (record { framing = w.framing; fresh = w.fresh; begun = begun w; written = octets })

-- what is written of the next frame contains no whole frame
abbrev pub IsPart : OutputState → Type 0
IsPart output = decoded (position_of output.framing output.fresh) output.begun ≡ []

-- these frames were sent: with what was written before of the first, the new octets are the encoding of the frames,
-- each begun at its own microsecond, and a part of the next
pub record HasWritten (old new : OutputState) (frames : Frames) : Type 0 where
  pub octets : List ℕ
  pub appended : new.written ≡ old.written ++ octets
  pub stamped : List (ℕ × List ℕ)
  pub frames_are : frames_of stamped ≡ frames
  pub short : AreShort stamped
  pub encodes : old.begun ++ octets ≡ spelled_all old.framing old.fresh stamped ++ new.begun
  pub part : IsPart old → IsPart new
  pub fresh : new.fresh ≡ fresh_after (length frames) old.fresh
  pub framing : new.framing ≡ old.framing

-- the same, if the octets are known
abbrev pub IsWrittenTo : Option OutputState → Option OutputState → Frames → Type 0
IsWrittenTo None new frames = ⊤
IsWrittenTo (Some old) None frames = ⊥
IsWrittenTo (Some old) (Some new) frames = HasWritten old new frames
