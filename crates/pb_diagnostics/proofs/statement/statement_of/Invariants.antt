use Rattle.std.proofs.Common.{◌≡◌, ◌≤◌, ◌⊎◌, true, false, length, take}
use Rattle.pb_diagnostics.specs.Statements.{Tells}
use Rattle.pb_diagnostics.proofs.statement.statement_of.Given as goal

-- the text up to `from` lacks the key or table, and the text up to `to` has it
abbrev pub invariant-loop-round : goal.invariant-loop-round
invariant-loop-round l = record {
  within : l.gap ≤ length l.ends;
  lacks : (l.from ≡ 0) ⊎ Tells (take l.from l.file) l.site false;
  has : Tells (take l.to l.file) l.site true;
}
