use Rattle.pb_run.proofs.CaptureLemmas.{carries}
use Rattle.pb_run.proofs.laws.runs_carry_captures.Goals as goal

pub returns : goal.returns
returns c = carries
