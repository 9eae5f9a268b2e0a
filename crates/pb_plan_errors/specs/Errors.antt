-- The errors of a plan file.
use Rattle.std.specs.Prelude.{◌≡◌, ◌≢◌, ◌⊎◌, ◌-◌, ℕ, false, codes, List, [], ◌∷◌, take, drop, None, Some, Option, MatchOption, option_map, string_bytes}
use Rattle.std.specs.List.{AllByRecursion}
use Rattle.std.specs.Str.{IsUtf8}
use Rattle.toml.specs.Data.{Members}
use Rattle.toml.specs.Parse.{parse_document}
use Rattle.pb_diagnostics.specs.Excerpts.{IsExcerpt}
use Rattle.pb_diagnostics.specs.Statements.{LacksSite}
use Rattle.pb_diagnostics.specs.declared.diagnostic.Diagnostic.{Diagnostic}
use Rattle.pb_diagnostics.specs.declared.mark.Mark.{Mark}
use Rattle.pb_diagnostics.specs.declared.excerpt.Excerpt.{Excerpt}
use Rattle.pb_plan_errors.specs.Findings.{IsFinding, has_path}
use Rattle.pb_plan_errors.specs.Hints.{IsPrintedHint}
use Rattle.pb_plan_errors.specs.Marks.{IsMarkOf}
use Rattle.pb_plan_errors.specs.Messages.{IsPrintedMessage}
use Rattle.pb_plan_errors.specs.declared.finding.Finding.{Finding}
use Rattle.pb_service.specs.PlanFiles.{IsPlanFile, RefusesFile}
use Rattle.pb_service.specs.Refusals.{Refuses}
use Rattle.pb_service.specs.declared.fault.PlanFault.{PlanFault}
use Rattle.pb_service.specs.declared.fault.PlanFault.TheVariants.{Utf8, Toml, Memory}

-- the marked octets of a finding, if its key or table is in the file
abbrev pub AreMarked : List ℕ → Finding → Option Mark → Type 0
AreMarked file f m = MatchOption m (LacksSite file f.shown) (IsMarkOf file f.shown f.part)

-- the excerpt of marked octets, if there are some
abbrev pub IsExcerptOf : List ℕ → Option Mark → Option Excerpt → Type 0
IsExcerptOf file None e = e ≡ None
IsExcerptOf file (Some m) None = ⊥
IsExcerptOf file (Some m) (Some e) = IsExcerpt file m e

-- the text is empty, or that of the marked octets
abbrev pub IsMarkedText : List ℕ → Option Mark → List ℕ → Type 0
IsMarkedText file None text = text ≡ []
IsMarkedText file (Some m) text = (text ≡ []) ⊎ (text ≡ take (m.to - m.from) (drop m.from file))

-- the error for a fault of a document at a key or table: its excerpt of the file, its message and its hint
pub record IsFoundError (file : List ℕ) (document : Members) (fault : PlanFault) (e : Diagnostic) : Type 0 where
  pub finding : Finding
  pub found : IsFinding document fault finding
  pub mark : Option Mark
  pub marked : AreMarked file finding mark
  pub excerpt : IsExcerptOf file mark e.excerpt
  pub value : List ℕ
  pub value_is : IsMarkedText file mark value
  pub message : IsPrintedMessage document fault finding.about value (string_bytes e.message)
  pub hint : IsPrintedHint file document fault finding (option_map string_bytes e.hint)

-- an error without excerpt and hint
pub record IsBare (e : Diagnostic) : Type 0 where
  pub excerpt : e.excerpt ≡ None
  pub hint : e.hint ≡ None

-- the error for a fault of a document; that of a fault about the key of a path has a key or table
abbrev pub IsDocumentError : List ℕ → Members → PlanFault → Diagnostic → Type 0
IsDocumentError file document fault e = IsFoundError file document fault e ⊎ ((has_path fault ≡ false) × IsBare e)

-- the error at some octets of a file, without a hint
pub record IsTextError (file : List ℕ) (e : Diagnostic) : Type 0 where
  pub mark : Mark
  pub excerpt : IsExcerptOf file (Some mark) e.excerpt
  pub hint : e.hint ≡ None

-- the error for a fault of a file, if the file is a document
abbrev pub IsErrorIn : List ℕ → PlanFault → Diagnostic → Type 0
IsErrorIn file fault e = (document : Members) → IsUtf8 file → parse_document file ≡ Some document → IsDocumentError file document fault e

-- the error for a fault of a file
abbrev pub IsFaultError : List ℕ → PlanFault → Diagnostic → Type 0
IsFaultError file Utf8 e = IsTextError file e × (string_bytes e.message ≡ codes "not UTF-8")
IsFaultError file Toml e = IsTextError file e
IsFaultError file Memory e = ⊥
IsFaultError file fault e = IsErrorIn file fault e

-- the file breaks the rule of a fault other than memory
abbrev pub IsFaultOf : List ℕ → PlanFault → Type 0
IsFaultOf file fault = (fault ≢ Memory) × RefusesFile file fault

-- the error of a document in a file: that of a rule that the document breaks
pub record IsErrorOf (file : List ℕ) (document : Members) (e : Diagnostic) : Type 0 where
  pub fault : PlanFault
  pub breaks : Refuses document fault
  pub not_memory : fault ≢ Memory
  pub error : IsDocumentError file document fault e

-- the file isn't a TOML document
abbrev pub IsNoDocument : List ℕ → Type 0
IsNoDocument file = IsUtf8 file → parse_document file ≡ None

-- the first error of a file: that of its text, or that of its document
abbrev pub IsFirstError : List ℕ → Diagnostic → Type 0
IsFirstError file e = (IsNoDocument file × IsTextError file e) ⊎ ((document : Members) × (parse_document file ≡ Some document) × IsErrorOf file document e)

-- a later error of a file: that of a document
abbrev pub IsLaterError : List ℕ → Diagnostic → Type 0
IsLaterError file e = (document : Members) × IsErrorOf file document e

-- the errors of a file, which has none if it is a plan
abbrev pub AreErrors : List ℕ → List Diagnostic → Type 0
AreErrors file [] = IsPlanFile file
AreErrors file (e ∷ es) = IsFirstError file e × AllByRecursion (IsLaterError file) es

-- the errors of a file that is no plan
abbrev pub HasErrors : List ℕ → List Diagnostic → Type 0
HasErrors file [] = ⊥
HasErrors file (e ∷ es) = IsFirstError file e × AllByRecursion (IsLaterError file) es
