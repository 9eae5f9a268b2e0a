use Rattle.std.proofs.Common.{◌↔◌, map, length}
use Rattle.std.specs.List.{IsDistinct}
use Rattle.pb_frame.specs.Admission.{same}
use Rattle.pb_lan.proofs.sound.distinct.addresses_differ.Given as goal

abbrev pub invariant-loop-rest : goal.invariant-loop-rest
invariant-loop-rest l = IsDistinct same (map (λ b. b.address.0) l.fn.bridges) ↔ IsDistinct same
    (map (λ b. b.address.0) l.rest)

abbrev pub decreases-loop-rest : goal.decreases-loop-rest
decreases-loop-rest l = length l.rest
