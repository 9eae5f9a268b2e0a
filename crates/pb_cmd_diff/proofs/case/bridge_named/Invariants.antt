use Rattle.std.proofs.Common.{◌≡◌, ◌+◌, drop}
use Rattle.pb_frame.specs.Admission.{same}
use Rattle.pb_lan.specs.Events.{number_of}
use Rattle.pb_cmd_diff.specs.Cases.{bridge_named}
use Rattle.pb_cmd_diff.proofs.case.bridge_named.Given as goal

abbrev pub invariant-loop-place : goal.invariant-loop-place
invariant-loop-place l = number_of (λ p. same l.name p.name) (l.place + 1) (drop l.place l.plan.bridges)
    ≡ bridge_named l.plan l.name
