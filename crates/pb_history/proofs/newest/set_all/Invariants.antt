use Rattle.std.proofs.Common.{◌≡◌, length, take}
use Rattle.pb_history.specs.Newest.{HaveSet}
use Rattle.pb_history.proofs.newest.set_all.Given as goal

abbrev pub invariant-loop-change : goal.invariant-loop-change
invariant-loop-change l = record {
  set : HaveSet l.initial.states l.states (take l.change-index l.changes);
  places : length l.states ≡ 17;
}
