use Rattle.std.proofs.Common.{◌≡◌, ◌+◌, ◌≤◌, ◌++◌, ℕ, List, length}
use Rattle.pb_port.specs.Sending.{IsNext, Adds}
use Rattle.pb_port.proofs.sender.Sender.settle.Given as goal

abbrev pub invariant-loop-rest : goal.invariant-loop-rest
invariant-loop-rest l = record {
  added : (done : List ℕ) × Adds l.count l.now l.fn.self l.self done × (done ++ l.rest ≡ l.written);
  next : IsNext l.now l.self l.rest;
  few : l.count + length l.rest ≤ length l.written;
  capacity : l.self.capacity ≡ l.fn.self.capacity;
  failed : l.self.failed ≡ l.fn.self.failed;
  shelved : l.self.shelved ≡ l.fn.self.shelved;
}

abbrev pub decreases-loop-rest : goal.decreases-loop-rest
decreases-loop-rest l = length l.rest
