use Rattle.std.proofs.Common.{◌≡◌, ◌<◌, ◌≤◌, ◌++◌, length, take, drop}
use Rattle.pb_port.specs.Spelling.{spelled, first_of, stream_of}
use Rattle.pb_port.specs.Sending.{begun, stamp_of}
use Rattle.pb_port.proofs.sender.Sender.stage.Given as goal

abbrev pub invariant-loop-i : goal.invariant-loop-i
invariant-loop-i l = record {
  within : l.at ≤ length l.run;
  done : l.done < length (spelled l.self.framing l.fresh l.stamp (first_of (drop l.i l.self.unsent.items)));
  next : begun l.self ++ (take l.at l.run ++ drop l.done
      (stream_of l.self.framing l.fresh l.stamp l.now (drop l.i l.self.unsent.items)))
      ≡ stream_of l.self.framing l.self.fresh (stamp_of l.now l.self) l.now l.self.unsent.items;
}
