use Rattle.std.proofs.Common.{◌∙◌, append_assoc}
use Rattle.pb_plan_errors.proofs.hint.is_for_kind.Goals as goal

pub returns : goal.returns
returns c = c.in_ok-format.ensures.ok ∙ simp append_assoc
