use Rattle.std.proofs.Common.{◌≡◌, ◌++◌, map, take, drop, cond, nat_eq}
use Rattle.pb_joins.proofs.joining.join.Given as goal

-- the marks so far are replaced, and the others are unchanged
abbrev pub invariant-loop-mark : goal.invariant-loop-mark
invariant-loop-mark l =
    l.marks ≡ map (λ m. cond (nat_eq m l.gone) l.kept m) (take l.mark-index l.initial.marks)
    ++ drop l.mark-index l.initial.marks
