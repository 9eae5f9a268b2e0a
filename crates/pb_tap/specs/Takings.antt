-- What the port of a tape takes.
use Rattle.std.specs.Prelude.{◌≡◌, List, ◌++◌, map}
use Rattle.pb_port.specs.Ports.{Frames}
use Rattle.pb_tap.specs.declared.crossing.Crossing.{Crossing}
use Rattle.pb_tap.specs.declared.tape.Tape.{Tape}

-- the port took the frames by which the list of taken frames grew, and no others
pub record Takes {P : Type 0} (tally : P → Frames) (old new : Tape P) : Type 0 where
  pub more : List Crossing
  pub grown : new.taken.items ≡ old.taken.items ++ more
  pub kept : tally new.port ≡ tally old.port ++ map (λ c. c.wire) more
