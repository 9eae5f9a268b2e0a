use Rattle.pb_forest.proofs.CertificateLemmas.{LeadTo}
use Rattle.pb_forest.proofs.certificate.all_lead_up.Given as goal

abbrev pub invariant-loop-i : goal.invariant-loop-i
invariant-loop-i l = LeadTo l.plan l.shape l.vid l.ups l.i
