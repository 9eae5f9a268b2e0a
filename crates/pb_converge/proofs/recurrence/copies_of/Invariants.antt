use Rattle.std.proofs.Common.{◌≡◌, map, take}
use Rattle.pb_converge.proofs.recurrence.copies_of.Given as goal

abbrev pub invariant-loop-i : goal.invariant-loop-i
invariant-loop-i l = l.copies.items ≡ take l.i (map (λ m. m.now) l.machines)
