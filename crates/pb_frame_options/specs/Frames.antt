-- The frame that options describe.
use Rattle.std.specs.Prelude.{ℕ, ◌-◌, ◌/◌, ◌%◌, List, [], ◌∷◌, ◌++◌, length, replicate, Option, Some, None}
use Rattle.pb_frame.specs.Tags.{control}
use Rattle.pb_frame.specs.declared.tci.Tci.{Tci}
use Rattle.pb_frame_options.specs.declared.frame.Content.{Content}
use Rattle.pb_frame_options.specs.declared.frame.Content.TheVariants.{EtherType, Bpdu}
use Rattle.pb_frame_options.specs.declared.frame.FrameOptions.{FrameOptions}

-- a number in two octets
abbrev pub number_octets : ℕ → List ℕ
number_octets number = (number / 256) ∷ (number % 256) ∷ []

-- a tag of a type, if there is one
abbrev pub tag_octets : ℕ → Option Tci → List ℕ
tag_octets tag_type None = []
tag_octets tag_type (Some tag) = number_octets tag_type ++ number_octets (control tag.pcp tag.dei tag.vid)

-- an EtherType; or the length 7, the LLC 42 42 03 and a topology change notification
abbrev pub content_octets : Content → List ℕ
content_octets (EtherType number) = number_octets number
content_octets Bpdu = 0 ∷ 7 ∷ 66 ∷ 66 ∷ 3 ∷ 0 ∷ 0 ∷ 0 ∷ 128 ∷ []

-- the addresses, the tags of types 88 A8 and 81 00, and what follows
abbrev pub unpadded : FrameOptions → List ℕ
unpadded options =
    options.to.0 ++ options.from.0 ++ tag_octets 34984 options.service ++ tag_octets 33024 options.customer
    ++ content_octets options.content

-- the frame with zeros up to its least length
abbrev pub frame_of : FrameOptions → List ℕ
frame_of options = unpadded options ++ replicate (options.least - length (unpadded options)) 0
