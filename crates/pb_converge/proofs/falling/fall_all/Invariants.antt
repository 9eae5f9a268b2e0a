use Rattle.std.proofs.Common.{◌≡◌, take}
use Rattle.pb_converge.specs.Falls.{HaveFallen}
use Rattle.pb_converge.proofs.falling.fall_all.Given as goal

abbrev pub invariant-loop-index : goal.invariant-loop-index
invariant-loop-index l =
    (l.net.plan ≡ l.plan) × HaveFallen l.plan (take l.index l.names) l.net
    × (l.net.is_kept ≡ l.initial.net.is_kept)
