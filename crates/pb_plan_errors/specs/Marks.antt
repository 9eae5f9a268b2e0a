-- The octets of a key or table in a file.
use Rattle.std.specs.Prelude.{◌≡◌, ℕ, List}
use Rattle.pb_diagnostics.specs.Marks.{IsMark}
use Rattle.pb_diagnostics.specs.Excerpts.{IsExcerpt}
use Rattle.pb_diagnostics.specs.Statements.{IsStatement}
use Rattle.pb_diagnostics.specs.declared.mark.Mark.{Mark}
use Rattle.pb_diagnostics.specs.declared.mark.Part.{Part}
use Rattle.pb_diagnostics.specs.declared.mark.Part.TheVariants.{Whole}
use Rattle.pb_diagnostics.specs.declared.excerpt.Excerpt.{Excerpt}
use Rattle.pb_diagnostics.specs.declared.site.Site.{Site}
use Rattle.pb_diagnostics.specs.declared.statement.Statement.{Statement}

-- the octets of a part of the statement that gives the file a key or table
pub record IsMarkOf (file : List ℕ) (site : Site) (part : Part) (m : Mark) : Type 0 where
  pub statement : Statement
  pub lines : IsStatement file site statement
  pub marks : IsMark file statement part m

-- the line of the statement that gives the file a key or table
pub record IsLineOf (file : List ℕ) (site : Site) (line : ℕ) : Type 0 where
  pub mark : Mark
  pub marks : IsMarkOf file site Whole mark
  pub excerpt : Excerpt
  pub excerpt_is : IsExcerpt file mark excerpt
  pub line_is : line ≡ excerpt.line
