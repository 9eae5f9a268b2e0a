use Rattle.std.proofs.Common.{◌≡◌, ◌+◌, map, drop}
use Rattle.pb_frame.specs.Admission.{same}
use Rattle.pb_lan.specs.Events.{number_of}
use Rattle.pb_step_script.specs.Named.{link_named}
use Rattle.pb_control_socket.proofs.places.link_named.Given as goal

abbrev pub invariant-loop-place : goal.invariant-loop-place
invariant-loop-place l =
    number_of (λ other. same other l.name) (l.place + 1) (map (λ x. x.name) (drop l.place l.plan.links))
    ≡ link_named l.plan l.name
