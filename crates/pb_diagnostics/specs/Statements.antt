-- The lines of a TOML text that give a key its value, or begin a table.
use Rattle.std.specs.Prelude.{◌≡◌, ◌⊎◌, ℕ, Bool, true, false, List, take, get_or, None, Some}
use Rattle.std.specs.Str.{IsUtf8}
use Rattle.toml.specs.Data.{Members}
use Rattle.toml.specs.Parse.{parse_document}
use Rattle.pb_diagnostics.specs.Sites.{has_site}
use Rattle.pb_diagnostics.specs.declared.site.Site.{Site}
use Rattle.pb_diagnostics.specs.declared.statement.Reading.{Reading}
use Rattle.pb_diagnostics.specs.declared.statement.Reading.TheVariants.{Broken, Lacks, Has}
use Rattle.pb_diagnostics.specs.declared.statement.Statement.{Statement}

-- the text is a document that has the key or table, or one that lacks it
abbrev pub Tells : List ℕ → Site → Bool → Type 0
Tells text site has = (document : Members) × (parse_document text ≡ Some document) × (has_site document site ≡ has)

-- what the text is
abbrev pub IsReading : List ℕ → Site → Reading → Type 0
IsReading text site Broken = IsUtf8 text → parse_document text ≡ None
IsReading text site Lacks = Tells text site false
IsReading text site Has = Tells text site true

-- the beginning of the file up to one of its ends is a document, with or without the key or table
abbrev pub IsWhole : List ℕ → List ℕ → Site → ℕ → Bool → Type 0
IsWhole file ends site index has = Tells (take (get_or ends index 0) file) site has

-- the text before the lines is a document that lacks the key or table, and the text with them one that has it
pub record IsStatement (file : List ℕ) (site : Site) (s : Statement) : Type 0 where
  pub lacks : (s.from ≡ 0) ⊎ Tells (take s.from file) site false
  pub has : Tells (take s.to file) site true

-- the file isn't a document, or is one that lacks the key or table
abbrev pub LacksSite : List ℕ → Site → Type 0
LacksSite file site = IsUtf8 file → (document : Members) → parse_document file ≡ Some document → has_site document site ≡ false
