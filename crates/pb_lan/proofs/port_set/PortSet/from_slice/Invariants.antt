use Rattle.std.proofs.Common.{ℕ, ◌≡◌, ◌≤◌, ◌<◌, ◌++◌, drop}
use Rattle.std.specs.List.{AllByRecursion}
use Rattle.pb_lan.specs.PortSets.{AreAscending}
use Rattle.pb_lan.proofs.port_set.PortSet.from_slice.Given as goal

abbrev pub invariant-loop-port : goal.invariant-loop-port
invariant-loop-port l = record {
  set : l.set ++ drop l.port-index l.ports ≡ l.ports;
  before : (b : ℕ) → l.last < b → AllByRecursion (λ p. p < b) l.set;
  last : l.last ≤ 16;
  behind : AreAscending 0 l.ports → AreAscending l.last (drop l.port-index l.ports);
}
