-- The length before each frame of a stream.
use Rattle.std.specs.Prelude.{ℕ}
use Rattle.pb_port.specs.declared.framing.LengthField.{LengthField}
use Rattle.pb_port.specs.declared.framing.LengthField.TheVariants.{Two, Four}

-- the number of octets of the length
abbrev pub octets_of : LengthField → ℕ
octets_of Two = 2
octets_of Four = 4
