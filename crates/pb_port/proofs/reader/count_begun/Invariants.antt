use Rattle.std.proofs.Common.{◌+◌, ◌≤◌, length}
use Rattle.pb_port.proofs.BeginningLemmas.{Counts}
use Rattle.pb_port.proofs.reader.count_begun.Given as goal

abbrev pub invariant-loop-rest : goal.invariant-loop-rest
invariant-loop-rest l = record {
  counts : Counts l.field l.count l.octets l.rest;
  few : l.count + length l.rest ≤ length l.octets;
}

abbrev pub decreases-loop-rest : goal.decreases-loop-rest
decreases-loop-rest l = length l.rest
