-- When the octets of a capture are given.
use Rattle.std.specs.Prelude.{◌≡◌, ℕ, ◌+◌, ◌-◌, ◌*◌, ◌<◌, ◌≤◌, ◌⊎◌, List, [], length, take, ◌++◌, Some, None}
use Rattle.std.specs.declared.option.Option.{Option}
use Rattle.std.specs.Io.KnownBytes.{Keeps, IsAtEnd, prepend_known}
use Rattle.pb_port.specs.declared.device.Got.{Got}
use Rattle.pb_port.specs.declared.device.Got.TheVariants.{Moved}
use Rattle.pb_port.specs.Devices.{Counts}
use Rattle.pb_replay.specs.declared.paced.Paced.{Paced}
use Rattle.pb_replay.specs.declared.paced.Stage.{Stage}
use Rattle.pb_replay.specs.declared.paced.Stage.TheVariants.{Records}
use Rattle.pb_replay.specs.declared.paced.Origin.{Origin}
use Rattle.pb_replay.specs.declared.record.Format.{Format}
use Rattle.pb_replay.specs.Held.{held}
use Rattle.pb_replay.specs.Records.{captured_in, time_in}

-- the record of this time, in nanoseconds, is due at this answer of the stopwatch, in microseconds: since the first
-- record was given, the distance of their times, divided by the speed, has passed
abbrev pub IsDue : ℕ → Option Origin → ℕ → ℕ → Type 0
IsDue speed None time now = Unit {0}
IsDue speed (Some first) time now = time - first.time ≤ (now - first.began) * (speed * 1000)

-- the octets are those of no record: no whole head, or one of a record that is too long
abbrev pub IsNoRecord : Format → List ℕ → Type 0
IsNoRecord format octets = (length octets < 16) ⊎ (262144 < captured_in format octets)

-- the octets may be given at this answer of the stopwatch: the record that they begin is due, or it is none. If the
-- stopwatch gives no answer, they may be given too
abbrev pub MayPass : ℕ → Option Origin → Format → List ℕ → Option ℕ → Type 0
MayPass speed first format octets None = Unit {0}
MayPass speed first format octets (Some now) = IsNoRecord format octets ⊎ IsDue speed first (time_in format octets) now

-- of a stage in which records come, a call gives the first octets of the next record only if they may be given. The
-- octets of the list are those that it gives, and those that are held after it
abbrev pub GivesInTime : Got → Stage → ℕ → Option Origin → List ℕ → Option ℕ → Type 0
GivesInTime (Moved n) (Records format) speed first octets now = 0 < n → MayPass speed first format octets now
GivesInTime got stage speed first octets now = Unit {0}

-- a call gives no octets, and the input is at its end if it says so
abbrev pub GivesNone : Got → Option (List ℕ) → Option (List ℕ) → Type 0
GivesNone (Moved n) old new = (n ≡ 0) × Keeps old new × IsAtEnd new
GivesNone other old new = Keeps old new

-- the octets that a device has yet to give: those that are held, and those that the other device has left
abbrev pub unread : {D C : Type 0} → (D → Option (List ℕ)) → Paced D C → Option (List ℕ)
unread of_device p = prepend_known (held p.head) (of_device p.device)

-- a failed call is counted, if a call was made
abbrev pub CountsSome : Option Got → ℕ → ℕ → Type 0
CountsSome None old new = new ≡ old
CountsSome (Some got) old new = Counts got old new

-- after a call that gave octets of a record, as many fewer are left
abbrev pub LeavesFewer : Got → ℕ → ℕ → Type 0
LeavesFewer (Moved n) old new = n + new ≡ old
LeavesFewer other old new = new ≡ old

-- the octets that a call gave are the first of those that were held, if some were
abbrev pub GivesHeld : Got → List ℕ → List ℕ → List ℕ → Type 0
GivesHeld (Moved n) buf old new = 0 < length old → take n buf ++ new ≡ old
GivesHeld other buf old new = length old ≡ 0

-- the first octets of a record are given: the rest of the record is left, or its end is not known
abbrev pub LeavesRecord : Got → Stage → List ℕ → Stage → ℕ → Type 0
LeavesRecord (Moved n) (Records format) octets (Records after) left =
    0 < n → (after ≡ format) × (n + left ≡ 16 + captured_in format octets)
LeavesRecord got stage octets after left = Unit {0}

-- the octets that a call gives
abbrev pub given : Got → List ℕ → List ℕ
given (Moved n) buf = take n buf
given other buf = []

-- the same as `GivesInTime`, of the octets that are held before they are given
abbrev pub PassesInTime : Stage → ℕ → Option Origin → List ℕ → Option ℕ → Type 0
PassesInTime (Records format) speed first octets now = MayPass speed first format octets now
PassesInTime stage speed first octets now = Unit {0}

-- the octets that are held are the first of a record, and its octets are left, or its end is not known
abbrev pub HasRecord : Stage → List ℕ → Stage → ℕ → Type 0
HasRecord (Records format) octets (Records after) left =
    (after ≡ format) × (left ≡ 16 + captured_in format octets)
HasRecord stage octets after left = Unit {0}

-- the first record that is given is noted with its time and the answer of the stopwatch, and no later one is
abbrev pub SetsFirst : Format → Option Origin → Option Origin → List ℕ → Option ℕ → Type 0
SetsFirst format (Some first) new octets now = new ≡ Some first
SetsFirst format None new octets (Some now) = new ≡ Some (record { time = time_in format octets; began = now })
SetsFirst format None new octets None = ⊥

-- the same, of a stage in which records come before and after
abbrev pub NotesFirst : Stage → Stage → Option Origin → Option Origin → List ℕ → Option ℕ → Type 0
NotesFirst (Records format) (Records after) old new octets now = SetsFirst format old new octets now
NotesFirst stage after old new octets now = Unit {0}

-- the same, of the octets that a call gives
abbrev pub NotesGiven : Got → Stage → Stage → Option Origin → Option Origin → List ℕ → Option ℕ → Type 0
NotesGiven (Moved n) stage after old new octets now = 0 < n → NotesFirst stage after old new octets now
NotesGiven other stage after old new octets now = Unit {0}
