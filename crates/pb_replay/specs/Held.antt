-- The octets that are held back.
use Rattle.std.specs.Prelude.{◌≡◌, ℕ, ◌+◌, List, length, slice_range}
use Rattle.std.specs.declared.option.Option.{Option}
use Rattle.std.specs.Io.KnownBytes.{IsAtEnd}
use Rattle.pb_port.specs.declared.device.Got.{Got}
use Rattle.pb_port.specs.declared.device.Got.TheVariants.{Moved}
use Rattle.pb_replay.specs.declared.head.Head.{Head}

-- the octets that were read from the device and are not given yet
abbrev pub held : Head → List ℕ
held h = slice_range h.octets h.start h.end

-- as many more octets are held as were read
abbrev pub FillsWhere : Got → List ℕ → List ℕ → Type 0
FillsWhere (Moved n) old new = length new ≡ length old + n
FillsWhere other old new = new ≡ old

-- a call that read no octets met the end of the device
abbrev pub MeetsEnd : Got → Option (List ℕ) → Type 0
MeetsEnd (Moved n) new = n ≡ 0 → IsAtEnd new
MeetsEnd other new = Unit {0}
