-- Frames that bridges dropped.
use Rattle.std.specs.Prelude.{◌≡◌, ℕ, ◌+◌, ◌*◌, ◌<◌, ◌==◌, ◌&&◌, Bool, false, List, [], Some, None, slice_index_or}
use Rattle.std.specs.declared.option.Option.{Option}
use Rattle.std.specs.List.{count_by}
use Rattle.pb_frame.specs.declared.reason.Reason.{Reason}
use Rattle.pb_frame.specs.declared.reason.Reason.TheVariants.{NotForwarding, NotMember, Untagged, Reserved, Malformed, Worn, Memory, STagged, Long}
use Rattle.pb_lan.specs.declared.step.Outcome.TheVariants.{Relayed, Filtered}
use Rattle.pb_lan.specs.declared.step.Step.{Step}
use Rattle.pb_lan.specs.declared.step.Step.TheVariants.{Receive}

-- the number of a reason: all reserved addresses have one
abbrev pub number_of : Reason → ℕ
number_of NotForwarding = 0
number_of NotMember = 1
number_of Untagged = 2
number_of (Reserved octet) = 3
number_of Malformed = 4
number_of Worn = 5
number_of Memory = 6
number_of STagged = 7
number_of Long = 8

-- a frame that this port received was dropped for this reason
abbrev pub is_dropped : ℕ → Reason → Step → Bool
is_dropped port reason (Receive at item learnt (Filtered other) moved) = at == port && number_of other == number_of reason
is_dropped port reason _ = false

-- a frame that this port received was relayed to no port
abbrev pub goes_nowhere : ℕ → Step → Bool
goes_nowhere port (Receive at item learnt (Relayed [] refused) moved) = at == port
goes_nowhere port _ = false

-- where a step is counted: ten counts for each port, the last of them for frames that were relayed to no port
abbrev pub place_of : Step → Option ℕ
place_of (Receive at item learnt (Filtered reason) moved) = Some (10 * at + number_of reason)
place_of (Receive at item learnt (Relayed [] refused) moved) = Some (10 * at + 9)
place_of _ = None

abbrev pub is_just : ℕ → Option ℕ → Bool
is_just place None = false
is_just place (Some other) = other == place

-- the counts are those of the steps at each place
abbrev pub AreDrops : List Step → List ℕ → Type 0
AreDrops items counts = (place : ℕ) → place < 170 → slice_index_or counts place 0 ≡ count_by (λ step. is_just place (place_of step)) items
