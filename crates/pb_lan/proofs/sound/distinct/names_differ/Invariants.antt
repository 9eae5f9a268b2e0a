use Rattle.std.proofs.Common.{◌↔◌, map, length}
use Rattle.std.specs.List.{IsDistinct}
use Rattle.pb_frame.specs.Admission.{same}
use Rattle.pb_lan.proofs.sound.distinct.names_differ.Given as goal

abbrev pub invariant-loop-rest : goal.invariant-loop-rest
invariant-loop-rest g l = IsDistinct same (map g.T.Named.name_of l.fn.things) ↔ IsDistinct same
    (map g.T.Named.name_of l.rest)

abbrev pub decreases-loop-rest : goal.decreases-loop-rest
decreases-loop-rest g l = length l.rest
