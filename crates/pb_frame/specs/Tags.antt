-- Service tags: the type 88 A8 and two octets of control directly after the source address (IEEE 802.1ad clause 9).
use Rattle.std.specs.Prelude.{ℕ, ◌+◌, ◌*◌, ◌/◌, ◌%◌, ◌<◌, Bool, List, [], ◌∷◌, ◌++◌, take, drop, length, slice_index, nat_le, ◌==◌, ◌&&◌, if◌then◌else◌, Some, None}
use Rattle.std.specs.declared.option.Option.{Option}

-- priority p, drop eligibility d and identifier v as one number
abbrev pub control : ℕ → ℕ → ℕ → ℕ
control p d v = p * 8192 + d * 4096 + v

-- priority, drop eligibility and identifier fit in their 3, 1 and 12 bits
abbrev pub IsTag : ℕ → ℕ → ℕ → Type 0
IsTag p d v = (p < 8) × (d < 2) × (v < 4096)

-- the frame x with a service tag
abbrev pub tagged : List ℕ → ℕ → ℕ → ℕ → List ℕ
tagged x p d v = take 12 x ++ (136 ∷ 168 ∷ (control p d v / 256) ∷ (control p d v % 256) ∷ []) ++ drop 12 x

-- the fewest octets of a frame with a tag
abbrev pub shortest_tagged : ℕ
shortest_tagged = 18

-- 88 A8 follows the source address
abbrev pub has_service_type : List ℕ → Bool
has_service_type x = slice_index x 12 == 136 && slice_index x 13 == 168

abbrev pub has_service_tag : List ℕ → Bool
has_service_tag x = has_service_type x && nat_le shortest_tagged (length x)

-- a complete customer tag follows the source address: 81 00 and two octets of control
abbrev pub has_customer_tag : List ℕ → Bool
has_customer_tag x = slice_index x 12 == 129 && slice_index x 13 == 0 && nat_le shortest_tagged (length x)

-- the control of the frame's tag, as a number
abbrev pub control_of : List ℕ → ℕ
control_of x = slice_index x 14 * 256 + slice_index x 15

abbrev pub priority_of : List ℕ → ℕ
priority_of x = control_of x / 8192 % 8

abbrev pub vid_of : List ℕ → ℕ
vid_of x = control_of x % 4096

-- the frame without its tag
abbrev pub untagged : List ℕ → List ℕ
untagged x = take 12 x ++ drop 16 x

-- the frame has a service tag with a priority and no service (IEEE 802.1Q clause 9.6: the null VID)
abbrev pub has_priority_tag : List ℕ → Bool
has_priority_tag x = has_service_tag x && vid_of x == 0

-- the priority of the frame's priority tag, if it has one
abbrev pub priority_tag_of : List ℕ → Option ℕ
priority_tag_of x = if has_priority_tag x then Some (priority_of x) else None

-- a customer's frame without its priority tag
abbrev pub bare : List ℕ → List ℕ
bare x = if has_priority_tag x then untagged x else x
