use Rattle.std.proofs.Common.{◌≡◌}
use Rattle.pb_workers.specs.Workers.{IsPortKept}
use Rattle.pb_workers.proofs.customer.CustomerWorkerWork.close.Given as goal

abbrev pub invariant-loop : goal.invariant-loop
invariant-loop g l = record {
  was : l.self.was ≡ l.initial.self.was;
  access : l.self.access ≡ l.initial.self.access;
  port : IsPortKept g.P.Port l.self;
}
