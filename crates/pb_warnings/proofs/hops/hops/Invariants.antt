use Rattle.std.proofs.Common.{◌≡◌, length}
use Rattle.pb_warnings.specs.Hops.{AreHops}
use Rattle.pb_warnings.proofs.HopLemmas.{AreLeast}
use Rattle.pb_warnings.proofs.hops.hops.Given as goal

-- numbers are right, and least for paths of as many links as there were rounds
abbrev pub invariant-loop-round : goal.invariant-loop-round
invariant-loop-round l = record {
  right : AreHops l.plan l.root l.hops;
  least : AreLeast l.plan l.root l._round l.hops;
  many : length l.hops ≡ 32;
}
