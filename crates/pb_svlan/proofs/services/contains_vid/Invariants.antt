use Rattle.std.proofs.Common.{◌≡◌, ◌==◌, drop}
use Rattle.std.specs.List.{list_any}
use Rattle.pb_svlan.proofs.services.contains_vid.Given as goal

abbrev pub invariant-loop-other : goal.invariant-loop-other
invariant-loop-other l = list_any (λ v. v == l.vid) (drop l.other-index l.vids) ≡ list_any (λ v. v == l.vid) l.vids
