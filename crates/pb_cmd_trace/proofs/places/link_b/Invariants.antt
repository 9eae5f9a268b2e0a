use Rattle.std.proofs.Common.{◌≡◌, ◌+◌, drop}
use Rattle.pb_lan.specs.Events.{link_b, number_of}
use Rattle.pb_lan.specs.Ports.{is_end_at}
use Rattle.pb_cmd_trace.proofs.places.link_b.Given as goal

abbrev pub invariant-loop-place : goal.invariant-loop-place
invariant-loop-place l = number_of (λ k. is_end_at l.bridge l.port k.b) (l.place + 1) (drop l.place l.plan.links)
    ≡ link_b l.plan l.bridge l.port
