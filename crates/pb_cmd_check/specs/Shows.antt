-- The output for the reserved addresses.
use Rattle.std.specs.Prelude.{ℕ, List, [], ◌∷◌, ◌++◌, flat_map, codes}
use Rattle.pb_frame.specs.Admission.{block}
use Rattle.pb_frame.specs.Hex.{mac_text}
use Rattle.pb_reserved.specs.Fates.{fate_of}
use Rattle.pb_reserved.specs.declared.kinds.Fate.{Fate}
use Rattle.pb_reserved.specs.declared.kinds.Fate.TheVariants.{Carry, Provider, Filter}

-- the printed word for how a frame is handled
abbrev pub fate_word : Fate → List ℕ
fate_word Carry = codes "carry"
fate_word Provider = codes "provider"
fate_word (Filter number) = codes "filter"

-- the line for an address
abbrev pub fate_line : List ℕ → List ℕ
fate_line mac = mac_text mac ++ codes " " ++ fate_word (fate_of mac) ++ 10 ∷ []

-- the lines for 01-80-C2-00-00-00 to -0F
abbrev pub fate_lines : List ℕ
fate_lines = flat_map (λ k. fate_line (block k)) (0 ∷ 1 ∷ 2 ∷ 3 ∷ 4 ∷ 5 ∷ 6 ∷ 7 ∷ 8 ∷ 9 ∷ 10 ∷ 11 ∷ 12 ∷ 13 ∷ 14 ∷ 15 ∷ [])
