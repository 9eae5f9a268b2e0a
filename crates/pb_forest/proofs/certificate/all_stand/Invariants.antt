use Rattle.pb_forest.proofs.CertificateLemmas.{StandTo}
use Rattle.pb_forest.proofs.certificate.all_stand.Given as goal

abbrev pub invariant-loop-i : goal.invariant-loop-i
invariant-loop-i l = StandTo l.plan l.shape l.vid l.rooted l.i
