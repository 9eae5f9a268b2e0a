use Rattle.pb_net.specs.Starts.{AreEmptyBoxes}
use Rattle.pb_net.proofs.start.empty_boxes.Given as goal

abbrev pub invariant-loop : goal.invariant-loop
invariant-loop l = AreEmptyBoxes l.counter l.boxes.items
