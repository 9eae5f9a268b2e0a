-- The place at which a plan file breaks a rule.
use Rattle.std.specs.Prelude.{◌≡◌, ◌≢◌, ◌≤◌, ◌⊎◌, ℕ, codes, [], ◌++◌, ◌+◌, ◌==◌, ◌&&◌, not, List, length, take, reverse, count_by, take_while, Option, Some, None, MatchOption, IfSome, if◌then◌else◌}
use Rattle.std.specs.Str.{IsUtf8, IsValidUpTo}
use Rattle.std.specs.Option.{option_map, option_map_or}
use Rattle.std.specs.Fmt.{decimal}
use Rattle.toml.specs.Parse.{parse_document}
use Rattle.pb_service.specs.declared.fault.PlanFault.{PlanFault}
use Rattle.pb_service.specs.declared.fault.PlanFault.TheVariants.{Utf8, Toml, Missing, Kind, Range, Unknown, Memory}
use Rattle.pb_service.specs.PlanFiles.{IsPlanFile, RefusesFile}
use Rattle.pb_plan_spans.specs.declared.spot.Spot.{Spot}
use Rattle.pb_plan_spans.specs.Lines.{lines_of, header_line, is_plain}
use Rattle.pb_plan_spans.specs.Places.{is_value, place_in}

-- a place, as it is printed
abbrev pub spot_text : Spot → List ℕ
spot_text spot = codes "line " ++ decimal spot.line ++ option_map_or (λ column. codes ", column " ++ decimal column) spot.column []

-- the octet after so many others: its line and its column, both from 1
abbrev pub octet_spot : List ℕ → ℕ → Spot
octet_spot file before = record {
  line = count_by (λ b. b == 10) (take before file) + 1;
  column = Some (length (take_while (λ b. not (b == 10)) (reverse (take before file))) + 1);
}

abbrev pub line_spot : ℕ → Spot
line_spot line = record { line = line; column = None }

-- the header of a key's table, by the path of the key, and none if headers can't be recognized line by line, are too
-- few, or have a word that is a value, which a line of an array could hold
abbrev pub key_spot : List ℕ → List ℕ → Option Spot
key_spot file path =
    if is_plain file && not (is_value (place_in path).0)
    then option_map line_spot (header_line (place_in path).0 (place_in path).1 (lines_of file)) else None

-- the first octet that isn't UTF-8, if there is one
abbrev pub IsUtf8Spot : List ℕ → Option Spot → Type 0
IsUtf8Spot file spot = MatchOption spot (IsUtf8 file) (λ s. (before : ℕ) × IsValidUpTo file before × (s ≡ octet_spot file before))

-- an octet of a file that isn't TOML, or the end of the file (the reader's contract does not say at which octet it
-- stops)
abbrev pub IsTomlSpot : List ℕ → Option Spot → Type 0
IsTomlSpot file spot = IfSome spot (λ s. (before : ℕ) × (before ≤ length file) × (s ≡ octet_spot file before) × (parse_document file ≡ None))

-- the place of a fault in the file
abbrev pub IsSpotOf : List ℕ → PlanFault → Option Spot → Type 0
IsSpotOf file Utf8 spot = IsUtf8Spot file spot
IsSpotOf file Toml spot = IsTomlSpot file spot
IsSpotOf file (Missing path) spot = spot ≡ key_spot file path
IsSpotOf file (Kind path) spot = spot ≡ key_spot file path
IsSpotOf file (Range path) spot = spot ≡ key_spot file path
IsSpotOf file (Unknown path) spot = spot ≡ key_spot file path
IsSpotOf file fault spot = spot ≡ None

-- the file is refused for a fault other than memory, and this is the place of the fault
pub record IsRefusedAt (file : List ℕ) (spot : Option Spot) : Type 0 where
  pub fault : PlanFault
  pub known : fault ≢ Memory
  pub refused : RefusesFile file fault
  pub there : IsSpotOf file fault spot

-- the file is a plan and has no place, or it is refused and this is the place
abbrev pub TellsSpot : List ℕ → Option Spot → Type 0
TellsSpot file spot = (IsPlanFile file × (spot ≡ None)) ⊎ IsRefusedAt file spot
