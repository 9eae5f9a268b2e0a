-- Whether an event is due.
use Rattle.std.specs.Prelude.{◌≡◌, Bool, true, false, Some, None, Ok, Err}
use Rattle.std.specs.declared.option.Option.{Option}
use Rattle.std.specs.declared.result.Result.{Result}
use Rattle.pb_lan.specs.Events.{names_something, is_idle, is_at_limit}
use Rattle.pb_lan.specs.declared.event.Event.{Event}
use Rattle.pb_net.specs.Answers.{NetView, IsDue}
use Rattle.pb_net.specs.declared.fault.NetFault.{NetFault}
use Rattle.pb_net.specs.declared.fault.NetFault.TheVariants.{StepLimit, Memory, NoSuch}

-- the place, if there is something to do and its list may take one more step
abbrev pub IsSifted : {X : Type 0} → Bool → Bool → X → Result (Option X) NetFault → Type 0
IsSifted idle limit place (Ok None) = idle ≡ true
IsSifted idle limit place (Ok (Some r)) = (idle ≡ false) × (limit ≡ false) × (r ≡ place)
IsSifted idle limit place (Err StepLimit) = (idle ≡ false) × (limit ≡ true)
IsSifted idle limit place (Err Memory) = ⊥
IsSifted idle limit place (Err NoSuch) = ⊥

-- the event is due at some place, or there is nothing to do, or it is refused
abbrev pub IsDueOr : {X : Type 0} → NetView → Event → Result (Option X) NetFault → Type 0
IsDueOr net event (Ok None) = (names_something net.plan event ≡ true) × (is_idle net.plan net.rec event ≡ true)
IsDueOr net event (Ok (Some place)) = IsDue net event
IsDueOr net event (Err StepLimit) = (names_something net.plan event ≡ true) × (is_idle net.plan net.rec event ≡ false) × (is_at_limit net.plan net.rec event ≡ true)
IsDueOr net event (Err Memory) = ⊥
IsDueOr net event (Err NoSuch) = names_something net.plan event ≡ false

-- the event is not due: it names nothing, or there is nothing to do
abbrev pub IsQuiet : NetView → Event → Type 0
IsQuiet net event = names_something net.plan event ≡ true → is_idle net.plan net.rec event ≡ true
