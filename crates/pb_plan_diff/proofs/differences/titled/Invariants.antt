use Rattle.std.proofs.Common.{◌≡◌, drop}
use Rattle.pb_frame.specs.Admission.{same}
use Rattle.pb_frame.specs.Lists.{first}
use Rattle.pb_plan_diff.proofs.differences.titled.Given as goal

abbrev pub invariant-loop-part : goal.invariant-loop-part
invariant-loop-part l =
    first (λ p. same p.title l.title) (drop l.part-index l.parts) ≡ first (λ p. same p.title l.title) l.parts
