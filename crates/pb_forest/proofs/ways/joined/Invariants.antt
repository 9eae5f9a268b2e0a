use Rattle.std.proofs.Common.{◌≡◌, ◌++◌, take}
use Rattle.pb_forest.proofs.ways.joined.Given as goal

abbrev pub invariant-loop-number : goal.invariant-loop-number
invariant-loop-number l = l.path.items ≡ l.fn.a.links.items ++ take l.number-index l.number-items
