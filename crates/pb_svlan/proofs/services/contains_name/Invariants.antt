use Rattle.std.proofs.Common.{◌≡◌, drop}
use Rattle.std.specs.List.{list_any}
use Rattle.pb_frame.specs.Admission.{same}
use Rattle.pb_svlan.proofs.services.contains_name.Given as goal

abbrev pub invariant-loop-other : goal.invariant-loop-other
invariant-loop-other l = list_any (λ n. same n l.name) (drop l.other-index l.names) ≡ list_any (λ n. same n l.name)
    l.names
