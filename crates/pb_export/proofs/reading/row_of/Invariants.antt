use Rattle.std.proofs.Common.{take}
use Rattle.std.specs.Prelude.{All}
use Rattle.pb_export.specs.Fitting.{FitsTemplate}
use Rattle.pb_export.proofs.reading.row_of.Given as goal

abbrev pub invariant-loop-template : goal.invariant-loop-template
invariant-loop-template l = record { none : All (λ t. FitsTemplate t l.line → ⊥) (take l.template-index l.templates) }
