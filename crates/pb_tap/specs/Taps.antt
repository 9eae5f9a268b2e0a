-- What a lane's taps have of its frames.
use Rattle.std.specs.Prelude.{◌≡◌, ◌<◌, ℕ, true, List, Some, None}
use Rattle.rtrb.specs.Ring.{sent, known_free}
use Rattle.pb_port.specs.Ports.{Frames}
use Rattle.pb_tap.specs.Crossings.{wires_of}
use Rattle.pb_tap.specs.declared.tap.Recorder.{Recorder}
use Rattle.pb_tap.specs.declared.tap.Recorder.TheVariants.{Tape, Feeder}
use Rattle.pb_tap.specs.declared.tap.Tap.{Tap}

-- the lane's frames that a recorder was given
abbrev pub own_of : {P : Type 0} → Recorder P → Frames
own_of (Tape tape) = wires_of true tape.seen.items
own_of (Feeder feeder) = sent feeder.to

-- the recorder has space for one more frame
abbrev pub HasRoom : {P : Type 0} → Recorder P → Type 0
HasRoom (Tape tape) = tape.hand ≡ None
HasRoom (Feeder feeder) = 0 < known_free feeder.to

-- the recorder has space for the frame, of which the tap has a copy
abbrev pub IsPrepared : {P : Type 0} → List ℕ → Tap P → Type 0
IsPrepared wire tap = (tap.ready ≡ Some wire) × HasRoom tap.recorder
