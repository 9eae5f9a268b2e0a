use Rattle.std.proofs.Common.{◌≡◌, drop}
use Rattle.std.specs.List.{list_any}
use Rattle.pb_frame.specs.Admission.{same}
use Rattle.pb_converge.specs.Falls.{is_link}
use Rattle.pb_converge.proofs.falling.is_link.Given as goal

abbrev pub invariant-loop-link : goal.invariant-loop-link
invariant-loop-link l = list_any (λ x. same l.name x.name) (drop l.link-index l.plan.links) ≡ is_link l.plan l.name
