use Rattle.std.proofs.Common.{◌≡◌}
use Rattle.pb_workers.proofs.lane.LaneWorkerWork.close.Given as goal

abbrev pub invariant-loop : goal.invariant-loop
invariant-loop g l = record {
  number : l.self.number ≡ l.fn.self.number;
  from : l.self.from.number ≡ l.fn.self.from.number;
  to : l.self.to.number ≡ l.fn.self.to.number;
  losses : l.self.lane.losses ≡ l.fn.self.lane.losses;
}
