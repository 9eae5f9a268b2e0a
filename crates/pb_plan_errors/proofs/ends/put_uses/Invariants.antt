use Rattle.std.specs.Prelude.{All}
use Rattle.toml.specs.View.{table_view}
use Rattle.pb_plan_errors.specs.Uses.{IsUse}
use Rattle.pb_plan_errors.proofs.ends.put_uses.Given as goal

-- a key of a table gives each use
abbrev pub invariant-loop-index : goal.invariant-loop-index
invariant-loop-index l = All (IsUse (table_view l.document)) l.uses.items
