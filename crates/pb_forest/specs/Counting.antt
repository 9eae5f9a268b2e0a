-- The counts of a graph, and how they change as bridges are removed.
use Rattle.std.specs.Prelude.{◌≡◌, ℕ, ◌<◌, ◌≤◌, ◌≢◌, List, ◌++◌, length, slice_index}
use Rattle.std.specs.declared.option.Option.{Option}
use Rattle.pb_forest.specs.Graphs.{degree, index_sum, AreWithin, AreTakenOff}
use Rattle.pb_forest.specs.declared.graph.Branch.{Branch}
use Rattle.pb_forest.specs.declared.graph.Ends.{Ends}
use Rattle.pb_forest.specs.declared.graph.Graph.{Graph}

-- degrees and sums are those of the links, of which there are at most 255
pub record IsCounted (g : Graph) : Type 0 where
  pub same : length g.sums.items ≡ length g.degrees.items
  pub few : length g.links.items ≤ 255
  pub within : AreWithin (length g.degrees.items) g.links.items
  pub degrees : (x : ℕ) → slice_index g.degrees.items x ≡ degree g.links.items x
  pub sums : (x : ℕ) → slice_index g.sums.items x ≡ index_sum 0 g.links.items x

-- a graph of these links, with the same number of bridges
pub record IsNext (old new : Graph) (links : List (Option Ends)) : Type 0 where
  pub counted : IsCounted new
  pub bridges : length new.degrees.items ≡ length old.degrees.items
  pub joined : new.links.items ≡ links

-- none of the first bridges has exactly one remaining link
abbrev pub IsCleared : ℕ → Graph → Type 0
IsCleared bridges g = (x : ℕ) → x < bridges → degree g.links.items x ≢ 1

-- more branches are removed
pub record TakesOff (old new : Graph) (before after : List Branch) : Type 0 where
  pub counted : IsCounted new
  pub bridges : length new.degrees.items ≡ length old.degrees.items
  pub more : List Branch
  pub added : after ≡ before ++ more
  pub taken : AreTakenOff old.links.items more new.links.items
