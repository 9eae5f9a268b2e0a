use Rattle.std.proofs.Common.{◌≡◌, length}
use Rattle.pb_fdb.specs.Entries.{fresh_entries, InOrder}
use Rattle.pb_fdb.proofs.table.forget_old.Given as goal

abbrev pub invariant-loop-entry : goal.invariant-loop-entry
invariant-loop-entry l = record {
  order : InOrder l.journal;
  fresh : fresh_entries l.ageing l.now l.journal ≡ fresh_entries l.ageing l.now l.initial.journal;
}

abbrev pub decreases-loop-entry : goal.decreases-loop-entry
decreases-loop-entry l = length l.journal
