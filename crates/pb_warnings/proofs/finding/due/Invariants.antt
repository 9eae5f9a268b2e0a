use Rattle.std.proofs.Common.{take}
use Rattle.pb_warnings.specs.Findings.{AreThose}
use Rattle.pb_warnings.specs.Rules.{Holds}
use Rattle.pb_warnings.proofs.finding.due.Given as goal

-- those of the warnings so far that are due are found
abbrev pub invariant-loop-warning : goal.invariant-loop-warning
invariant-loop-warning l = AreThose (Holds l.plan l.limits) (take l.warning-index l.all) l.found.items
