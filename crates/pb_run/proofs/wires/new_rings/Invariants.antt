use Rattle.std.proofs.Common.{◌≡◌, vec_len}
use Rattle.pb_run.specs.Wires.{AreNew}
use Rattle.pb_run.proofs.wires.new_rings.Given as goal

abbrev pub invariant-loop-number : goal.invariant-loop-number
invariant-loop-number l = record {
  new : AreNew l.rings.items;
  count : vec_len l.rings ≡ l.number;
}
