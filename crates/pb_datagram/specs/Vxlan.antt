-- The header of VXLAN (RFC 7348 section 5).
use Rattle.std.specs.Prelude.{◌≡◌, ◌<◌, ◌≤◌, ℕ, List, [], ◌∷◌, ◌++◌, length, drop, slice_index}
use Rattle.std.specs.Int.{IsBitSet}
use Rattle.byteorder.specs.Endian.{big_bytes, big_number}
use Rattle.pb_datagram.specs.declared.refusal.Refusal.{Refusal}
use Rattle.pb_datagram.specs.declared.refusal.Refusal.TheVariants.{ShortHeader, UnsetFlag}

-- the header of a network, as it is sent: the I flag, the identifier in 24 bits, and zero in all reserved bits
abbrev pub header_of : ℕ → List ℕ
header_of vni = 8 ∷ 0 ∷ 0 ∷ 0 ∷ big_bytes 3 vni ++ 0 ∷ []

-- the octets begin with a header of a network, whatever its reserved bits are
pub record HasHeader (vni : ℕ) (octets : List ℕ) : Type 0 where
  pub long : 8 ≤ length octets
  pub flag : IsBitSet (slice_index octets 0) 3
  pub network : big_number 3 (drop 4 octets) ≡ vni

-- the reason for which the octets do not begin with a header
abbrev pub HasNoHeader : Refusal → List ℕ → Type 0
HasNoHeader ShortHeader octets = length octets < 8
HasNoHeader UnsetFlag octets = (8 ≤ length octets) × ¬ (IsBitSet (slice_index octets 0) 3)
HasNoHeader other octets = ⊥
