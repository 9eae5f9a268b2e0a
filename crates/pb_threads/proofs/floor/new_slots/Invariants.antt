use Rattle.std.proofs.Common.{◌≡◌, vec_len}
use Rattle.pb_threads.proofs.floor.new_slots.Given as goal

abbrev pub invariant-loop-index : goal.invariant-loop-index
invariant-loop-index g l = vec_len l.slots ≡ l._index
