use Rattle.std.proofs.Common.{◌≡◌, ◌+◌, drop}
use Rattle.pb_frame.specs.Admission.{same}
use Rattle.pb_lan.specs.Events.{number_of}
use Rattle.pb_cmd_diff.specs.Cases.{link_named}
use Rattle.pb_cmd_diff.proofs.case.link_named.Given as goal

abbrev pub invariant-loop-place : goal.invariant-loop-place
invariant-loop-place l = number_of (λ p. same l.name p.name) (l.place + 1) (drop l.place l.plan.links)
    ≡ link_named l.plan l.name
