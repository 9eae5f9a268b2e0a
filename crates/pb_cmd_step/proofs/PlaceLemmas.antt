-- The places of events exist.
use Rattle.std.proofs.Common.{true, ◌≡◌, ℕ, zero, suc, ◌≤◌, List, [], ◌∷◌}
use Rattle.std.proofs.Common.{length, is_some, refl, arith}
use Rattle.pb_relay.proofs.SettingLemmas.{provider_used}
use Rattle.pb_lan.specs.Events.{has_place, place_of, names_something}
use Rattle.pb_lan.specs.Numbering.{numbered}
use Rattle.pb_lan.specs.Plans.{IsSound}
use Rattle.pb_lan.specs.Ports.{port_at, is_used}
use Rattle.pb_lan.specs.declared.event.Event.{Event}
use Rattle.pb_lan.specs.declared.event.Event.TheVariants.{Poll, Feed, Deliver, Receive, Transmit, Tick, Admin, Take}
use Rattle.pb_lan.specs.declared.event.Event.TheVariants.{Put}
use Rattle.pb_lan.specs.declared.plan.Plan.{Plan}
use Rattle.pb_net.proofs.SpotLemmas.{bridge_there}

numbered_there : {X : Type 0} (xs : List X) (n : ℕ) → 1 ≤ n → n ≤ length xs → is_some (numbered xs n) ≡ true
numbered_there xs zero low high = absurd (omega arith)
numbered_there [] (suc n) low high = absurd (omega (arith, high))
numbered_there (x ∷ xs) (suc zero) low high = refl
numbered_there (x ∷ xs) (suc (suc n)) low high = numbered_there xs (suc n) (omega arith) (omega (arith, high))

-- a port that a sound plan uses belongs to one of its bridges
used_there : (plan : Plan) → IsSound plan → (b q : ℕ) → is_used (port_at plan b q) ≡ true
    → is_some (numbered plan.bridges b) ≡ true
used_there plan sound b q u =
    let there = bridge_there plan sound b q u in numbered_there plan.bridges b there.0 there.1

-- the place of an event that names a part of the plan exists
pub named_place : (plan : Plan) → IsSound plan → (event : Event) → names_something plan event ≡ true
    → has_place plan (place_of event) ≡ true
named_place plan sound (Poll port frame) h = h
named_place plan sound (Feed port) h = h
named_place plan sound (Deliver port) h = h
named_place plan sound (Receive bridge port) h = used_there plan sound bridge port h
named_place plan sound (Transmit bridge port) h = used_there plan sound bridge port h
named_place plan sound (Tick bridge) h = h
named_place plan sound (Admin bridge port up) h = used_there plan sound bridge port
    (provider_used (port_at plan bridge port) h)
named_place plan sound (Take lane) h = h
named_place plan sound (Put lane) h = h
