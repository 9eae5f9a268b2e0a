use Rattle.std.proofs.Common.{◌≡◌, true}
use Rattle.pb_tap.specs.Crossings.{wires_of}
use Rattle.pb_tap.specs.Takings.{Takes}
use Rattle.pb_tap.proofs.tape.Tape.pass_on.Given as goal

abbrev pub invariant-loop-steps : goal.invariant-loop-steps
invariant-loop-steps g l = record {
  own : wires_of true l.self.seen.items ≡ wires_of true l.initial.self.seen.items;
  takes : Takes g.P.Port.tally l.initial.self l.self;
}
