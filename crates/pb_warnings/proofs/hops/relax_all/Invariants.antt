use Rattle.std.proofs.Common.{◌≡◌, length}
use Rattle.pb_warnings.specs.Hops.{Nears}
use Rattle.pb_warnings.proofs.hops.relax_all.Given as goal

-- bridges at the ends of the links so far are near
abbrev pub invariant-loop-link : goal.invariant-loop-link
invariant-loop-link l = record {
  nears : Nears l.plan l.link-index l.initial.hops l.hops;
  many : length l.hops ≡ 32;
}
