-- What an event asks of a network: the place whose step it asks for, whether the plan has that place, whether nothing
-- is due there, and the step that the event may append.
use Rattle.std.specs.Prelude.{◌≡◌, ℕ, zero, suc, ◌+◌, ◌*◌, ◌/◌, ◌%◌, Bool, false, List, [], ◌∷◌, ◌++◌, Some, None, length, is_some, nat_le, nat_lt, ◌==◌, ◌&&◌, ◌||◌, not, slice_set, if◌then◌else◌}
use Rattle.std.specs.declared.option.Option.{Option}
use Rattle.pb_lan.specs.Numbering.{numbered}
use Rattle.pb_lan.specs.Ports.{Port, port_at, is_used, is_provider, is_customer_at, is_end_at}
use Rattle.pb_lan.specs.Ports.Port.{Customer, Provider, Unused}
use Rattle.pb_lan.specs.Queues.{waiting}
use Rattle.pb_lan.specs.Records.{steps_of, received, transmitted, lane_ab, lane_ba}
use Rattle.pb_lan.specs.LaneLists.{taken, carried, put}
use Rattle.pb_lan.specs.PortLists.{polled, fed, delivered}
use Rattle.pb_lan.specs.declared.plan.Plan.{Plan}
use Rattle.pb_lan.specs.declared.plan.End.{End}
use Rattle.pb_lan.specs.declared.plan.LinkPlan.{LinkPlan}
use Rattle.pb_lan.specs.declared.plan.CustomerPlan.{CustomerPlan}
use Rattle.pb_lan.specs.declared.record.Record.{Record}
use Rattle.pb_lan.specs.declared.event.Event.{Event}
use Rattle.pb_lan.specs.declared.event.Event.TheVariants.{Poll, Feed, Deliver, Receive, Transmit, Tick, Admin, Take, Put}
use Rattle.pb_lan.specs.declared.step.Item.{Item}
use Rattle.pb_lan.specs.declared.step.Place.{Place}
use Rattle.pb_lan.specs.declared.step.Place.TheVariants.{Bridge, Lane, Customer as CustomerPort}
use Rattle.pb_lan.specs.declared.step.Step.{Step}
use Rattle.pb_lan.specs.declared.step.Step.TheVariants.{Poll as Polled, Feed as Fed, Deliver as Delivered, Receive as Received, Transmit as Transmitted, Tick as Ticked, Admin as Administered, Take as Took, Put as Put_on}

-- the place that the event asks for a step
abbrev pub place_of : Event → Place
place_of (Poll port frame) = CustomerPort port
place_of (Feed port) = CustomerPort port
place_of (Deliver port) = CustomerPort port
place_of (Receive bridge port) = Bridge bridge
place_of (Transmit bridge port) = Bridge bridge
place_of (Tick bridge) = Bridge bridge
place_of (Admin bridge port up) = Bridge bridge
place_of (Take lane) = Lane lane
place_of (Put lane) = Lane lane

-- the plan has the place
abbrev pub has_place : Plan → Place → Bool
has_place plan (Bridge number) = is_some (numbered plan.bridges number)
has_place plan (Lane number) = nat_le 1 number && nat_le number (2 * length plan.links)
has_place plan (CustomerPort number) = is_some (numbered plan.customers number)

-- the steps of a place
abbrev pub steps_at : Record → Place → List Step
steps_at rec (Bridge number) = steps_of rec.bridges number
steps_at rec (Lane number) = steps_of rec.lanes number
steps_at rec (CustomerPort number) = steps_of rec.customers number

-- the plan has the event's place and local port, and for an Admin the port is a provider port
abbrev pub names_something : Plan → Event → Bool
names_something plan (Receive bridge port) = is_used (port_at plan bridge port)
names_something plan (Transmit bridge port) = is_used (port_at plan bridge port)
names_something plan (Admin bridge port up) = is_provider (port_at plan bridge port)
names_something plan event = has_place plan (place_of event)

-- the number of the first entry that passes the test, counted from k on, or 0 if none passes
abbrev pub number_of : {X : Type 0} → (X → Bool) → ℕ → List X → ℕ
number_of test k [] = 0
number_of test k (x ∷ xs) = if test x then k else number_of test (k + 1) xs

-- the number of the customer port at a bridge's local port, or 0
abbrev pub customer_there : Plan → ℕ → ℕ → ℕ
customer_there plan bridge port = number_of (is_customer_at bridge port) 1 plan.customers

-- the number of the link whose end a is at a bridge's local port, or 0
abbrev pub link_a : Plan → ℕ → ℕ → ℕ
link_a plan bridge port = number_of (λ l. is_end_at bridge port l.a) 1 plan.links

-- the number of the link whose end b is at a bridge's local port, or 0
abbrev pub link_b : Plan → ℕ → ℕ → ℕ
link_b plan bridge port = number_of (λ l. is_end_at bridge port l.b) 1 plan.links

-- the lane that leads away from a bridge's local port
abbrev pub lane_from : Plan → ℕ → ℕ → ℕ
lane_from plan bridge port = if nat_lt 0 (link_a plan bridge port) then lane_ab (link_a plan bridge port) else lane_ba (link_b plan bridge port)

-- the lane that leads to a bridge's local port
abbrev pub lane_to : Plan → ℕ → ℕ → ℕ
lane_to plan bridge port = if nat_lt 0 (link_a plan bridge port) then lane_ba (link_a plan bridge port) else lane_ab (link_b plan bridge port)

-- the items that were sent to a bridge's port of this kind
abbrev pub sent_by : Plan → Record → ℕ → ℕ → Port → List Item
sent_by plan rec bridge port (Customer c) = fed (steps_of rec.customers (customer_there plan bridge port))
sent_by plan rec bridge port (Provider e) = put (steps_of rec.lanes (lane_to plan bridge port))
sent_by plan rec bridge port Unused = []

-- the items that were sent to a bridge's local port
abbrev pub sent_to : Plan → Record → ℕ → ℕ → List Item
sent_to plan rec bridge port = sent_by plan rec bridge port (port_at plan bridge port)

-- the items that were taken of those that a bridge transmitted at a port of this kind
abbrev pub fetched_by : Plan → Record → ℕ → ℕ → Port → List Item
fetched_by plan rec bridge port (Customer c) = delivered (steps_of rec.customers (customer_there plan bridge port))
fetched_by plan rec bridge port (Provider e) = taken (steps_of rec.lanes (lane_from plan bridge port))
fetched_by plan rec bridge port Unused = []

-- the items that were taken of those that a bridge transmitted at a local port
abbrev pub fetched_from : Plan → Record → ℕ → ℕ → List Item
fetched_from plan rec bridge port = fetched_by plan rec bridge port (port_at plan bridge port)

-- everything that was sent has been taken
abbrev pub is_all_fetched : List Item → List Item → Bool
is_all_fetched sent got = nat_le (length sent) (length got)

-- as many items wait between the two as a meeting place holds
abbrev pub is_ring_full : Plan → List Item → List Item → Bool
is_ring_full plan sent got = nat_le (length got + plan.ring) (length sent)

-- the end of a link at which a lane begins
abbrev pub begins_at : ℕ → LinkPlan → End
begins_at lane link = if lane % 2 == 1 then link.a else link.b

-- the end of a link at which a lane ends
abbrev pub ends_at : ℕ → LinkPlan → End
ends_at lane link = if lane % 2 == 1 then link.b else link.a

-- a customer port holds no frame
abbrev pub is_hand_empty : List Step → Bool
is_hand_empty steps = is_all_fetched (polled steps) (fed steps)

-- no Feed is due: the customer port holds no frame, or the meeting place is full
abbrev pub is_feed_idle : Plan → Record → List Step → Option CustomerPlan → Bool
is_feed_idle plan rec steps None = false
is_feed_idle plan rec steps (Some c) = is_hand_empty steps || is_ring_full plan (fed steps) (received c.port (steps_of rec.bridges c.bridge))

-- no Deliver is due: the customer port has taken all that its bridge sent
abbrev pub is_deliver_idle : Record → List Step → Option CustomerPlan → Bool
is_deliver_idle rec steps None = false
is_deliver_idle rec steps (Some c) = is_all_fetched (transmitted c.port (steps_of rec.bridges c.bridge)) (delivered steps)

-- no Take is due: the lane holds an item, or has taken all that was sent to it
abbrev pub is_take_idle : Record → ℕ → List Step → Option LinkPlan → Bool
is_take_idle rec lane steps None = false
is_take_idle rec lane steps (Some link) =
    not (is_all_fetched (carried steps) (put steps))
    || is_all_fetched (transmitted (begins_at lane link).port (steps_of rec.bridges (begins_at lane link).bridge)) (taken steps)

-- no Put is due: the lane holds no item, or the meeting place is full
abbrev pub is_put_idle : Plan → Record → ℕ → List Step → Option LinkPlan → Bool
is_put_idle plan rec lane steps None = false
is_put_idle plan rec lane steps (Some link) =
    is_all_fetched (carried steps) (put steps)
    || is_ring_full plan (put steps) (received (ends_at lane link).port (steps_of rec.bridges (ends_at lane link).bridge))

-- no step of the event is due: a hand, a queue or a meeting place is full or empty
abbrev pub is_idle : Plan → Record → Event → Bool
is_idle plan rec (Poll port frame) = not (is_hand_empty (steps_of rec.customers port))
is_idle plan rec (Feed port) = is_feed_idle plan rec (steps_of rec.customers port) (numbered plan.customers port)
is_idle plan rec (Deliver port) = is_deliver_idle rec (steps_of rec.customers port) (numbered plan.customers port)
is_idle plan rec (Receive bridge port) = is_all_fetched (sent_to plan rec bridge port) (received port (steps_of rec.bridges bridge))
is_idle plan rec (Transmit bridge port) =
    nat_le (length (waiting plan bridge port (steps_of rec.bridges bridge))) 0
    || is_ring_full plan (transmitted port (steps_of rec.bridges bridge)) (fetched_from plan rec bridge port)
is_idle plan rec (Tick bridge) = false
is_idle plan rec (Admin bridge port up) = false
is_idle plan rec (Take lane) = is_take_idle rec lane (steps_of rec.lanes lane) (numbered plan.links ((lane + 1) / 2))
is_idle plan rec (Put lane) = is_put_idle plan rec lane (steps_of rec.lanes lane) (numbered plan.links ((lane + 1) / 2))

-- the step is of the event's kind, with its frame, its port and its `up`, and no customer of a network that is driven
-- by events stops taking frames
abbrev pub IsStepOf : Event → Step → Type 0
IsStepOf (Poll port frame) (Polled item) = item.wire ≡ frame
IsStepOf (Feed port) (Fed item) = Unit {0}
IsStepOf (Deliver port) (Delivered item gone) = gone ≡ false
IsStepOf (Receive bridge port) (Received at item learnt outcome moved) = at ≡ port
IsStepOf (Transmit bridge port) (Transmitted at item) = at ≡ port
IsStepOf (Tick bridge) (Ticked now moved) = Unit {0}
IsStepOf (Admin bridge port up) (Administered at was_up moved) = (at ≡ port) × (was_up ≡ up)
IsStepOf (Take lane) (Took number item lost) = Unit {0}
IsStepOf (Put lane) (Put_on item) = Unit {0}
IsStepOf event _ = ⊥

-- the lists with one more step in the list of this number
abbrev pub one_more : List (List Step) → ℕ → Step → List (List Step)
one_more lists zero step = lists
one_more lists (suc n) step = slice_set lists n (steps_of lists (suc n) ++ step ∷ [])

-- the record with one more step of the place
abbrev pub with_step : Record → Place → Step → Record
with_step rec (Bridge number) step = record rec { bridges = one_more rec.bridges number step }
with_step rec (Lane number) step = record rec { lanes = one_more rec.lanes number step }
with_step rec (CustomerPort number) step = record rec { customers = one_more rec.customers number step }

-- the event was done: its place took one step of its kind
abbrev pub HasDone : Record → Event → Record → Type 0
HasDone old event new = (step : Step) × IsStepOf event step × (new ≡ with_step old (place_of event) step)

-- the event's place has taken as many steps as the plan allows
abbrev pub is_at_limit : Plan → Record → Event → Bool
is_at_limit plan rec event = length (steps_at rec (place_of event)) == plan.steps

-- an empty list of steps for each place
abbrev pub unstepped : {X : Type 0} → List X → List (List Step)
unstepped [] = []
unstepped (x ∷ xs) = [] ∷ unstepped xs

-- the record of a network that has taken no step
abbrev pub empty_record : Plan → Record
empty_record plan = record { bridges = unstepped plan.bridges; lanes = unstepped plan.links ++ unstepped plan.links; customers = unstepped plan.customers }
