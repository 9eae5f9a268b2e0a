-- The octets of a BPDU in a frame (IEEE 802.1D-2004 clause 9.3.3).
use Rattle.std.specs.Prelude.{◌≡◌, ℕ, ◌+◌, ◌*◌, ◌^◌, ◌<◌, ◌≤◌, Bool, List, [], ◌∷◌, ◌++◌, length, if◌then◌else◌}
use Rattle.byteorder.specs.Endian.{big_bytes}
use Rattle.pb_frame.specs.Admission.{provider_address}
use Rattle.pb_bpdu.specs.declared.bpdu.Bpdu.{Bpdu}

-- the value of a flag, 0 or 1
abbrev pub bit : Bool → ℕ
bit b = if b then 1 else 0

-- the flags as one octet, of which the highest is not used (IEEE 802.1D-2004 clause 9.3.3)
abbrev pub flags : Bpdu → ℕ
flags m =
    bit m.change + 2 * bit m.proposal + 4 * m.role + 16 * bit m.learning + 32 * bit m.forwarding + 64 * bit m.agreement

-- the octets after the flags: the four parts of a priority vector and the four times
abbrev pub numbers : Bpdu → List ℕ
numbers m =
    big_bytes 8 m.root ++ (big_bytes 4 m.cost ++ (big_bytes 8 m.bridge ++ (big_bytes 2 m.port
    ++ (big_bytes 2 m.age ++ (big_bytes 2 m.max_age ++ (big_bytes 2 m.hello ++ big_bytes 2 m.delay))))))

-- the octets of a BPDU: protocol 0, version, type 2, flags, numbers, and the length of a version 1 part
abbrev pub body : ℕ → ℕ → Bpdu → ℕ → List ℕ
body version octet m last =
    0 ∷ 0 ∷ version ∷ 2 ∷ octet ∷ (numbers m ++ last ∷ [])

-- each number fits in its field
pub record Fits (m : Bpdu) : Type 0 where
  pub root : m.root < 256 ^ 8
  pub cost : m.cost < 256 ^ 4
  pub bridge : m.bridge < 256 ^ 8
  pub port : m.port < 256 ^ 2
  pub age : m.age < 256 ^ 2
  pub max_age : m.max_age < 256 ^ 2
  pub hello : m.hello < 256 ^ 2
  pub delay : m.delay < 256 ^ 2

-- the frame is two addresses, a length, the octets 42-42-03 of logical link control and the BPDU m; any version from
-- 2 on, highest flag, last octet and octets after it are allowed
pub record IsBpduFrame (frame : List ℕ) (m : Bpdu) : Type 0 where
  pub dst : List ℕ
  pub src : List ℕ
  pub high : ℕ
  pub low : ℕ
  pub version : ℕ
  pub highest : ℕ
  pub last : ℕ
  pub rest : List ℕ
  pub dst_length : length dst ≡ 6
  pub src_length : length src ≡ 6
  pub long_enough : 39 ≤ high * 256 + low
  pub within : high * 256 + low ≤ 39 + length rest
  pub recent : 2 ≤ version
  pub one_flag : highest < 2
  pub fits : Fits m
  pub spelled : frame ≡ dst ++ (src ++ (high ∷ low ∷ 66 ∷ 66 ∷ 3 ∷ (body version (flags m + 128 * highest) m last ++ rest)))

-- the frame in which a bridge sends m
abbrev pub written : List ℕ → Bpdu → List ℕ
written src m = provider_address ++ (src ++ (0 ∷ 39 ∷ 66 ∷ 66 ∷ 3 ∷ body 2 (flags m) m 0))
