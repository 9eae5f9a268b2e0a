-- The frames that crossed a link, by their direction.
use Rattle.std.specs.Prelude.{Bool, true, false, not, List, [], map, Option, Some, None}
use Rattle.std.specs.List.{filter}
use Rattle.rtrb.specs.Ring.{received, IsPair}
use Rattle.rtrb.specs.declared.consumer.Consumer.{Consumer}
use Rattle.rtrb.specs.declared.producer.Producer.{Producer}
use Rattle.pb_port.specs.Ports.{Frames}
use Rattle.pb_tap.specs.declared.crossing.Crossing.{Crossing}

-- the frame crossed in the own direction, or in the other
abbrev pub is_of : Bool → Crossing → Bool
is_of true c = c.is_own
is_of false c = not c.is_own

-- the frames of one direction: the own one, or the other
abbrev pub wires_of : Bool → List Crossing → Frames
wires_of own crossings = map (λ c. c.wire) (filter (is_of own) crossings)

-- the frames that came over a ring, if there is one
abbrev pub over : {T A P : Type 0} → Option (Consumer T A P) → List T
over None = []
over (Some from) = received from

-- there is a ring, and these are its ends
abbrev pub IsPairOf : {T A P : Type 0} → Option (Consumer T A P) → Producer T A P → Type 0
IsPairOf None to = Unit {0}
IsPairOf (Some from) to = IsPair to from
