-- The reading of what a port wrote.
use Rattle.std.specs.Prelude.{◌≡◌, []}
use Rattle.pb_port.specs.Inputs.{decoded}
use Rattle.pb_port.specs.Outputs.{OutputState, HasWritten}
use Rattle.pb_port.specs.Ports.{Frames}
use Rattle.pb_port.specs.Written.{position_of}

-- what a port wrote to an empty output is read as the frames that it sent
abbrev pub SentIsRead : Type 0
SentIsRead =
    (old new : OutputState) (frames : Frames) → old.begun ≡ [] → old.written ≡ [] → HasWritten old new frames
    → decoded (position_of old.framing old.fresh) new.written ≡ frames
