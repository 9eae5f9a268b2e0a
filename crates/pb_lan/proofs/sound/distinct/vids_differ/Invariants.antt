use Rattle.std.proofs.Common.{◌↔◌, map, length, nat_eq}
use Rattle.std.specs.List.{IsDistinct}
use Rattle.pb_lan.proofs.sound.distinct.vids_differ.Given as goal

abbrev pub invariant-loop-rest : goal.invariant-loop-rest
invariant-loop-rest l = IsDistinct nat_eq (map (λ s. s.vid) l.fn.services) ↔ IsDistinct nat_eq (map (λ s. s.vid) l.rest)

abbrev pub decreases-loop-rest : goal.decreases-loop-rest
decreases-loop-rest l = length l.rest
