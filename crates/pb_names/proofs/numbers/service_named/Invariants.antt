use Rattle.std.proofs.Common.{◌≡◌, ◌+◌, drop}
use Rattle.pb_frame.specs.Admission.{same}
use Rattle.pb_lan.specs.Events.{number_of}
use Rattle.pb_names.specs.Numbers.{service_named}
use Rattle.pb_names.proofs.numbers.service_named.Given as goal

abbrev pub invariant-loop-place : goal.invariant-loop-place
invariant-loop-place l = number_of (λ s. same l.name s.name) (l.place + 1) (drop l.place l.plan.services)
    ≡ service_named l.plan l.name
