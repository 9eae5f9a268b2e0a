use Rattle.std.proofs.Common.{append_assoc}
use Rattle.pb_service.proofs.section.row_path.Goals as goal

pub returns : goal.returns
returns c = simp append_assoc c.in_ok-format.ensures.ok
