-- The line that brings a frame to a port.
use Rattle.std.specs.Prelude.{◌≡◌, ℕ, List, ◌∷◌, ◌++◌, Some, ◌<◌, ◌≤◌, length, codes}
use Rattle.pb_frame.specs.Hex.{IsHex}
use Rattle.pb_messages.specs.Words.{port_of}

-- the line brings a frame to a port: `in PORT HEX`, separated by one space each, with at least one octet
pub record IsFrameLine (limit ports : ℕ) (line : List ℕ) (port : ℕ) (frame : List ℕ) : Type 0 where
  pub short : length line ≤ limit
  pub digits : List ℕ
  pub hex : List ℕ
  pub spelled : line ≡ codes "in " ++ (digits ++ 32 ∷ hex)
  pub number : port_of digits ≡ Some port
  pub within : port ≤ ports
  pub octets : IsHex hex frame
  pub some : 0 < length frame
