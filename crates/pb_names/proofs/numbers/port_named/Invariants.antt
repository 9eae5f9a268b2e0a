use Rattle.std.proofs.Common.{◌≡◌, ◌+◌, drop}
use Rattle.pb_frame.specs.Admission.{same}
use Rattle.pb_lan.specs.Events.{number_of}
use Rattle.pb_names.specs.Numbers.{port_named}
use Rattle.pb_names.proofs.numbers.port_named.Given as goal

abbrev pub invariant-loop-place : goal.invariant-loop-place
invariant-loop-place l = number_of (λ c. same l.name c.name) (l.place + 1) (drop l.place l.plan.customers)
    ≡ port_named l.plan l.name
