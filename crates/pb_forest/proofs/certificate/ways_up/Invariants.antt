use Rattle.pb_forest.proofs.CertificateLemmas.{MarkedTo}
use Rattle.pb_forest.proofs.certificate.ways_up.Given as goal

abbrev pub invariant-loop-up : goal.invariant-loop-up
invariant-loop-up l = MarkedTo l.ups l.up-index l.marks
