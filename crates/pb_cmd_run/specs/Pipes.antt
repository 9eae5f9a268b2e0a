-- How a capture is cut for a pipe.
use Rattle.std.specs.Prelude.{◌≡◌, ◌⊎◌, ℕ, zero, suc, ◌+◌, nat_lt, if◌then◌else◌, List, length, drop}
use Rattle.pb_port.specs.Streams.{captured}
use Rattle.pb_port.specs.declared.stream_position.ByteOrder.TheVariants.{Little}

-- the number of octets of the record that begins with these, or 0 if its head is not whole
abbrev pub record_length : List ℕ → ℕ
record_length octets = if nat_lt (length octets) 16 then 0 else 16 + captured Little octets

-- where so many records end of which the first begins at an index
abbrev pub records_end : ℕ → List ℕ → ℕ → ℕ
records_end zero octets at = at
records_end (suc n) octets at = records_end n octets at + record_length (drop (records_end n octets at) octets)

-- a share of octets, the first of which are the rest of what was begun, ends where a record does, or with the octets
abbrev pub IsShare : List ℕ → ℕ → ℕ → Type 0
IsShare octets left share = (share ≡ length octets) ⊎ ((n : ℕ) × (share ≡ records_end n octets left))
