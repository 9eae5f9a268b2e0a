use Rattle.pb_lan.proofs.Rising.{RisesBelow}
use Rattle.pb_lan.proofs.sound.records.rises.Given as goal

abbrev pub invariant-loop-k : goal.invariant-loop-k
invariant-loop-k l = RisesBelow l.numbers l.k
