-- The printed line for a refused plan file.
use Rattle.std.specs.Prelude.{◌≡◌, ℕ, List, [], ◌∷◌, ◌++◌, Option, codes}
use Rattle.std.specs.Fmt.{decimal}
use Rattle.std.specs.Io.KnownBytes.{Appends}
use Rattle.pb_printable.specs.Printable.{printable}
use Rattle.pb_service.specs.Faults.{number_of}
use Rattle.pb_service.specs.PlanFiles.{RefusesFile}
use Rattle.pb_service.specs.declared.fault.PlanFault.{PlanFault}
use Rattle.pb_service.specs.declared.fault.PlanFault.TheVariants.{Utf8, Toml, Missing, Kind, Range, Unknown, Twice, NoSuch, LinkEnd, TooMany, Memory}

-- the printed text of a fault, with its key or name; their control characters are escaped
abbrev pub fault_words : PlanFault → List ℕ
fault_words Utf8 = codes "utf8"
fault_words Toml = codes "toml"
fault_words (Missing key) = codes "missing " ++ printable key
fault_words (Kind key) = codes "kind " ++ printable key
fault_words (Range key) = codes "range " ++ printable key
fault_words (Unknown key) = codes "unknown " ++ printable key
fault_words (Twice name) = codes "twice " ++ printable name
fault_words (NoSuch name) = codes "no-such " ++ printable name
fault_words LinkEnd = codes "link-end"
fault_words TooMany = codes "too-many"
fault_words Memory = codes "memory"

-- the line for a fault of a plan file
abbrev pub refusal_line : PlanFault → List ℕ
refusal_line fault = codes "plan: " ++ decimal (number_of fault) ++ codes " " ++ fault_words fault ++ 10 ∷ []

-- the text is the line for a rule that the file breaks
pub record IsRefusalText (file : List ℕ) (text : List ℕ) : Type 0 where
  pub fault : PlanFault
  pub refuses : RefusesFile file fault
  pub text_is : text ≡ refusal_line fault

-- the line for a rule that the file breaks was written after the earlier octets, if the written octets are known
pub record PrintsRefusal (file : List ℕ) (before after : Option (List ℕ)) : Type 0 where
  pub text : List ℕ
  pub written : Appends before after text
  pub why : IsRefusalText file text
