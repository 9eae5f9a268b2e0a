use Rattle.std.proofs.Common.{◌≡◌, ℕ, ◌≤◌, length}
use Rattle.pb_cmd_run.specs.Pipes.{records_end}
use Rattle.pb_cmd_run.proofs.pipe.share_of.Given as goal

-- whole records follow the rest of what was begun, and all are among the octets
abbrev pub invariant-loop-piece : goal.invariant-loop-piece
invariant-loop-piece l =
    (l.end ≤ length l.octets) × (l.left ≤ l.end) × ((n : ℕ) × (l.end ≡ records_end n l.octets l.left))
