use Rattle.std.proofs.Common.{map, drop}
use Rattle.std.specs.List.{AllByRecursion}
use Rattle.pb_rstp.specs.Laws.{IsInLine}
use Rattle.pb_rstp.proofs.network.are_in_line.Given as goal

-- if the remaining bridges are in line, all are
abbrev pub invariant-loop-bridge : goal.invariant-loop-bridge
invariant-loop-bridge l = AllByRecursion IsInLine (map (λ m. m.now) (drop l.bridge-index l.bridges))
    → AllByRecursion IsInLine (map (λ m. m.now) l.bridges)
