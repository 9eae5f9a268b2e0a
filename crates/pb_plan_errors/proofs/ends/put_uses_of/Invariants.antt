use Rattle.std.specs.Prelude.{All}
use Rattle.toml.specs.View.{table_view}
use Rattle.pb_plan_errors.specs.Uses.{IsUse}
use Rattle.pb_plan_errors.proofs.ends.put_uses_of.Given as goal

-- a key of a table gives each use
abbrev pub invariant-loop-key : goal.invariant-loop-key
invariant-loop-key l = All (IsUse (table_view l.document)) l.uses.items
