use Rattle.pb_rstp.proofs.ChangeLaws.{changes_lead_on}
use Rattle.pb_rstp.proofs.laws.changes_lead_on.Goals as goal

pub returns : goal.returns
returns c = changes_lead_on
