-- Tags and types in options.
use Rattle.std.specs.Prelude.{◌≡◌, ◌⊎◌, ℕ, ◌+◌, ◌*◌, ◌<◌, ◌==◌, ◌&&◌, nat_lt, if◌then◌else◌, Bool}
use Rattle.std.specs.Prelude.{List, [], ◌∷◌, length, drop, slice_index, Option, Some, None, IsSomeAnd}
use Rattle.std.specs.List.{before_first, after_first, position_or_len}
use Rattle.std.specs.Str.Parse.{IsNumeral, digits_value, without_leading_plus}
use Rattle.pb_frame.specs.Hex.{IsHex}
use Rattle.pb_frame_options.specs.declared.tag.TagTextFault.{TagTextFault}
use Rattle.pb_frame_options.specs.declared.tag.TagTextFault.TheVariants.{Form, Vid, Pcp, Digits, Length}

-- decimal digits, maybe after a plus, of a number below 2^32
abbrev pub IsNumberText : List ℕ → ℕ → Type 0
IsNumberText text n =
    IsNumeral 10 (without_leading_plus text) × (digits_value 10 (without_leading_plus text) ≡ n) × (n < 4294967296)

abbrev pub IsNoNumber : List ℕ → Type 0
IsNoNumber text = (n : ℕ) → IsNumberText text n → ⊥

abbrev pub is_colon : ℕ → Bool
is_colon c = c == 58

-- `VID` of `VID` or `VID:PCP`
abbrev pub vid_text : List ℕ → List ℕ
vid_text text = before_first is_colon text

-- `PCP` of `VID:PCP`
abbrev pub pcp_text : List ℕ → Option (List ℕ)
pcp_text text = if nat_lt (position_or_len is_colon text) (length text) then Some (after_first is_colon text) else None

-- without a text the priority is 0
abbrev pub IsPriorityText : Option (List ℕ) → ℕ → Type 0
IsPriorityText None pcp = pcp ≡ 0
IsPriorityText (Some text) pcp = IsNumberText text pcp

-- `VID` or `VID:PCP`
abbrev pub IsCustomerTagText : List ℕ → ℕ → ℕ → Type 0
IsCustomerTagText text vid pcp = IsNumberText (vid_text text) vid × IsPriorityText (pcp_text text) pcp

-- why a text is not a VID from 0 to 4094
abbrev pub IsVidFault : List ℕ → TagTextFault → Type 0
IsVidFault text Form = IsNoNumber text
IsVidFault text (Vid n) = IsNumberText text n × (4094 < n)
IsVidFault text _ = ⊥

-- why a text is not a priority from 0 to 7
abbrev pub IsPcpFault : Option (List ℕ) → TagTextFault → Type 0
IsPcpFault text Form = IsSomeAnd text IsNoNumber
IsPcpFault text (Pcp n) = IsSomeAnd text (λ pcp. IsNumberText pcp n) × (7 < n)
IsPcpFault text _ = ⊥

abbrev pub IsTagFault : List ℕ → TagTextFault → Type 0
IsTagFault text fault = IsVidFault (vid_text text) fault ⊎ IsPcpFault (pcp_text text) fault

-- what follows `0x`, or all without `0x`
abbrev pub type_digits : List ℕ → List ℕ
type_digits text = if (slice_index text 0 == 48) && (slice_index text 1 == 120) then drop 2 text else text

-- the digits of two octets, with or without `0x` before them
abbrev pub IsTypeText : List ℕ → ℕ → Type 0
IsTypeText text number =
    (high : ℕ) × (low : ℕ) × IsHex (type_digits text) (high ∷ low ∷ []) × (number ≡ high * 256 + low)

-- why a text is not a type from 0600 on
abbrev pub IsTypeFault : List ℕ → TagTextFault → Type 0
IsTypeFault text Digits = (number : ℕ) → IsTypeText text number → ⊥
IsTypeFault text Length = (number : ℕ) × IsTypeText text number × (number < 1536)
IsTypeFault text _ = ⊥
