use Rattle.std.proofs.Common.{◌≡◌, map, take}
use Rattle.pb_converge.proofs.recurrence.are_same.Given as goal

abbrev pub invariant-loop-i : goal.invariant-loop-i
invariant-loop-i l = take l.i (map (λ m. m.now) l.machines) ≡ take l.i l.marked
