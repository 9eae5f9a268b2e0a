-- What the header of a capture and the heads of its records tell.
use Rattle.std.specs.Prelude.{ℕ, ◌+◌, ◌*◌, ◌==◌, List, slice_index, Some, None, if◌then◌else◌}
use Rattle.std.specs.declared.option.Option.{Option}
use Rattle.pb_replay.specs.declared.record.ByteOrder.{ByteOrder}
use Rattle.pb_replay.specs.declared.record.ByteOrder.TheVariants.{Big, Little}
use Rattle.pb_replay.specs.declared.record.Fraction.{Fraction}
use Rattle.pb_replay.specs.declared.record.Fraction.TheVariants.{Micros, Nanos}
use Rattle.pb_replay.specs.declared.record.Format.{Format}

-- the number in the four octets from an index on
abbrev pub number_at : ByteOrder → List ℕ → ℕ → ℕ
number_at Big xs at =
    16777216 * slice_index xs at + 65536 * slice_index xs (at + 1) + 256 * slice_index xs (at + 2)
    + slice_index xs (at + 3)
number_at Little xs at =
    slice_index xs at + 256 * slice_index xs (at + 1) + 65536 * slice_index xs (at + 2)
    + 16777216 * slice_index xs (at + 3)

-- the format that a magic number tells, if it is known
abbrev pub format_by : ℕ → Option Format
format_by magic =
    if magic == 2712847316 then Some (record { order = Big; fraction = Micros })
    else if magic == 2712812621 then Some (record { order = Big; fraction = Nanos })
    else if magic == 3569595041 then Some (record { order = Little; fraction = Micros })
    else if magic == 1295823521 then Some (record { order = Little; fraction = Nanos })
    else None

-- the format that the header of a capture tells
abbrev pub format_of : List ℕ → Option Format
format_of header = format_by (number_at Big header 0)

-- the number of octets that follow the head of a record
abbrev pub captured_in : Format → List ℕ → ℕ
captured_in format head = number_at format.order head 8

-- the nanoseconds of a unit
abbrev pub unit_of : Fraction → ℕ
unit_of Micros = 1000
unit_of Nanos = 1

-- the time of a record, in nanoseconds since 1970
abbrev pub time_in : Format → List ℕ → ℕ
time_in format head =
    number_at format.order head 0 * 1000000000 + number_at format.order head 4 * unit_of format.fraction
