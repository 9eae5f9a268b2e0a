-- A network that is driven by events alone.
use Rattle.std.specs.Prelude.{◌≡◌, ◌≤◌, ◌<◌, ◌⊎◌, ◌+◌, ◌-◌, ◌*◌, ◌&&◌, ℕ, zero, suc, ◌==◌, Bool, true, false, List, [], ◌∷◌, ◌++◌, map, length, Some, Ok}
use Rattle.std.specs.List.{AllByRecursion, count_by, list_all}
use Rattle.pb_lan.specs.Events.{place_of, names_something, is_idle, is_at_limit}
use Rattle.pb_lan.specs.Numbering.{numbers_from}
use Rattle.pb_lan.specs.declared.event.Event.{Event}
use Rattle.pb_lan.specs.declared.event.Event.TheVariants.{Poll, Tick, Admin}
use Rattle.pb_lan.specs.declared.plan.LinkPlan.{LinkPlan}
use Rattle.pb_lan.specs.declared.plan.Spanning.{Spanning}
use Rattle.pb_lan.specs.declared.plan.Spanning.TheVariants.{Fixed, Rstp}
use Rattle.pb_net.specs.Answers.{NetView, IsAnswer}
use Rattle.pb_net.specs.declared.did.Did.TheVariants.{Done}
use Rattle.pb_lan.specs.declared.plan.Plan.{Plan}
use Rattle.pb_lan.specs.declared.record.Record.{Record}
use Rattle.pb_relay.specs.Settled.{TellsConverged, machines_in}
use Rattle.pb_rstp.specs.Tree.{NoneHeld}
use Rattle.pb_spanning_tree.specs.Laws.{AreTree}
use Rattle.pb_spanning_tree.specs.Planned.{disabled_by}
use Rattle.pb_converge.specs.Enough.{HasEnoughMemory}
use Rattle.pb_converge.specs.declared.fault.DriveFault.{DriveFault}
use Rattle.pb_converge.specs.declared.fault.DriveFault.TheVariants.{Memory, Steps, Events}
use Rattle.pb_converge.specs.declared.convergence.Convergence.{Convergence}
use Rattle.pb_converge.specs.declared.convergence.Convergence.TheVariants.{Given, Converged, NotConverged}

-- the event carries on what is on its way: no frame is polled, no clock ticks, no port is enabled or disabled
abbrev pub is_onward : Event → Bool
is_onward (Poll port frame) = false
is_onward (Tick bridge) = false
is_onward (Admin bridge port up) = false
is_onward event = true

-- the event is a tick of this bridge, polls a frame, enables or disables a port
abbrev pub is_tick_of : ℕ → Event → Bool
is_tick_of bridge (Tick other) = bridge == other
is_tick_of bridge event = false

abbrev pub is_poll : Event → Bool
is_poll (Poll port frame) = true
is_poll event = false

abbrev pub is_admin : Event → Bool
is_admin (Admin bridge port up) = true
is_admin event = false

-- among the events are at most so many ticks of each bridge, so many that poll a frame, and so many that enable or
-- disable a port
pub record AreFew (ticks polls admins : ℕ) (events : List Event) : Type 0 where
  pub ticked : (bridge : ℕ) → count_by (is_tick_of bridge) events ≤ ticks
  pub polled : count_by is_poll events ≤ polls
  pub switched : count_by is_admin events ≤ admins

-- the events were performed one after the other: at each, its place took a step
abbrev pub HaveDone : NetView → List Event → NetView → Type 0
HaveDone old [] new = new ≡ old
HaveDone old (event ∷ events) new =
    (between : NetView) × IsAnswer old event (Ok (Done (place_of event))) between × HaveDone between events new

-- this many events of a kind were performed
pub record HaveGone (kind : Event → Bool) (count : ℕ) (old new : NetView) : Type 0 where
  pub events : List Event
  pub kinds : AllByRecursion (λ e. kind e ≡ true) events
  pub done : HaveDone old events new
  pub number : length events ≡ count

-- the event is not due: it names nothing, or it is idle
abbrev pub IsNotDue : NetView → Event → Type 0
IsNotDue net event = names_something net.plan event ≡ true → is_idle net.plan net.rec event ≡ true

-- this many events that carry on what is on its way were performed, and none is due after them
pub record HasDrained (count : ℕ) (old new : NetView) : Type 0 where
  pub gone : HaveGone is_onward count old new
  pub none_due : (event : Event) → is_onward event ≡ true → IsNotDue new event

-- an event is due whose place has taken as many steps as the plan allows
pub record IsAtLimit (net : NetView) : Type 0 where
  pub event : Event
  pub named : names_something net.plan event ≡ true
  pub busy : is_idle net.plan net.rec event ≡ false
  pub full : is_at_limit net.plan net.rec event ≡ true

-- why an event was not performed: an allocation failed, or its place has taken as many steps as the plan allows
abbrev pub IsRefusal : DriveFault → NetView → Type 0
IsRefusal Memory net = Unit {0}
IsRefusal Steps net = IsAtLimit net
IsRefusal Events net = ⊥

-- why driving ended early after this many events that carry on what is on its way: so, or they are more than `most`
abbrev pub IsReason : DriveFault → ℕ → ℕ → NetView → Type 0
IsReason Memory most count net = Unit {0}
IsReason Steps most count net = IsAtLimit net
IsReason Events most count net = most < count

-- some events were performed, at most `most`, or one more if that is the fault
pub record HasStopped (most : ℕ) (fault : DriveFault) (old new : NetView) : Type 0 where
  pub count : ℕ
  pub gone : HaveGone is_onward count old new
  pub too_many : fault ≡ Events → count ≡ most + 1
  pub within : (fault ≡ Events → ⊥) → count ≤ most
  pub reason : IsReason fault most count new

-- events were performed: at most so many ticks of each bridge, and this many that carry on what is on its way
pub record HasBeenDriven (ticks count : ℕ) (old new : NetView) : Type 0 where
  pub events : List Event
  pub done : HaveDone old events new
  pub few : AreFew ticks 0 0 events
  pub number : count_by is_onward events ≡ count

-- so, and then there was a reason to end early
pub record HasFailed (ticks most : ℕ) (fault : DriveFault) (old new : NetView) : Type 0 where
  pub count : ℕ
  pub driven : HasBeenDriven ticks count old new
  pub reason : IsReason fault most count new

-- the first of these events were performed, and then one was not
pub record HasBroken (due : List Event) (fault : DriveFault) (old new : NetView) : Type 0 where
  pub events : List Event
  pub later : List Event
  pub parts : events ++ later ≡ due
  pub done : HaveDone old events new
  pub refusal : IsRefusal fault new

-- Some events were performed one after the other, among them only so many ticks of each bridge, polled frames, and
-- enabled or disabled ports. No allocation failed in them. Then an event was due at a place that may take no more
-- steps, or more than `most` of them carry on what is on its way.
pub record ReachesLimit (ticks polls admins most : ℕ) (old : NetView) : Type 0 where
  pub events : List Event
  pub new : NetView
  pub done : HaveDone old events new
  pub few : AreFew ticks polls admins events
  pub enough : HasEnoughMemory new.rec
  pub limit : IsAtLimit new ⊎ (most < count_by is_onward events)

-- why driving a network ended with a fault: a limit was reached, unless an allocation failed
abbrev pub IsCaused : ℕ → ℕ → ℕ → ℕ → DriveFault → NetView → Type 0
IsCaused ticks polls admins most Memory old = Unit {0}
IsCaused ticks polls admins most Steps old = ReachesLimit ticks polls admins most old
IsCaused ticks polls admins most Events old = ReachesLimit ticks polls admins most old

-- each bridge has ticked once, in the plan's order
abbrev pub HasTicked : NetView → NetView → Type 0
HasTicked old new = HaveDone old (map (λ n. Tick n) (numbers_from 1 old.plan.bridges)) new

-- each bridge has ticked once, and then this many events were performed, until none was due
pub record IsRound (count : ℕ) (old new : NetView) : Type 0 where
  pub ticked : NetView
  pub ticks : HasTicked old ticked
  pub drained : HasDrained count ticked new

-- this many rounds, with this many events besides the ticks in all
abbrev pub AreRounds : ℕ → ℕ → NetView → NetView → Type 0
AreRounds zero count old new = (count ≡ 0) × (new ≡ old)
AreRounds (suc ticks) count old new =
    (between : NetView) × (before more : ℕ) × (before + more ≡ count) × AreRounds ticks before old between × IsRound more between new

-- the rounds so far have at most this many ticks and events
pub record HasGoneRound (ticks events : ℕ) (old new : NetView) : Type 0 where
  pub count : ℕ
  pub rounds : AreRounds ticks count old new
  pub within : count ≤ events

-- the plan gives the states and nothing was done, or this many rounds were gone
abbrev pub HasStood : Spanning → ℕ → ℕ → NetView → NetView → Type 0
HasStood Fixed ticks events old new = new ≡ old
HasStood Rstp ticks events old new = HasGoneRound ticks events old new

-- this many rounds and one more: `before` says whether the bridges had converged before the last, and `after`
-- whether they have converged after it
pub record HasLooked (rounds : ℕ) (before after : Bool) (old new : NetView) : Type 0 where
  pub between : NetView
  pub count : ℕ
  pub gone : AreRounds rounds count old between
  pub more : ℕ
  pub last : IsRound more between new
  pub told_before : TellsConverged between.plan between.rec (Some before)
  pub told_after : TellsConverged new.plan new.rec (Some after)

-- after one of the last two rounds of so many the bridges had not converged
abbrev pub HadNotConverged : ℕ → NetView → NetView → Type 0
HadNotConverged ticks old new =
    (before : Bool) × (after : Bool) × HasLooked (ticks - 1) before after old new × ((before && after) ≡ false)

-- the link loses no frame
abbrev pub is_lossless : LinkPlan → Bool
is_lossless link = length link.lost_ab == 0 && length link.lost_ba == 0

-- this many rounds, with any number of events
abbrev pub HaveGoneRounds : ℕ → NetView → NetView → Type 0
HaveGoneRounds rounds old new = (count : ℕ) × AreRounds rounds count old new

-- The network only counts its steps, no link loses frames, and in these rounds the machines of the bridges came back to
-- what they had been `period` rounds before. From the last round to the limit it is a whole number of such periods.
pub record HasRecurred (most rounds : ℕ) (old new : NetView) : Type 0 where
  pub counted : old.is_kept ≡ false
  pub lossless : list_all is_lossless old.plan.links ≡ true
  pub first : ℕ
  pub period : ℕ
  pub since : ℕ
  pub whole : ℕ
  pub earlier : NetView
  pub later : NetView
  pub before : HaveGoneRounds first old earlier
  pub between : HaveGoneRounds period earlier later
  pub after : HaveGoneRounds since later new
  pub number : first + period + since ≡ rounds
  pub some : 0 < period
  pub same : machines_in earlier.plan earlier.rec ≡ machines_in later.plan later.rec
  pub rest : rounds + whole * period ≡ most

-- the limit of ticks is reached, or the machines recur and would be the same when it is reached
abbrev pub IsAtEnd : ℕ → ℕ → NetView → NetView → Type 0
IsAtEnd most rounds old new = (rounds ≡ most) ⊎ HasRecurred most rounds old new

-- the bridges form the spanning tree of the plan and of the ports that they have disabled, whatever the steps of the
-- record are, if no root path cost is cut
abbrev pub FormTree : Plan → Record → Type 0
FormTree plan rec =
    NoneHeld (machines_in plan rec) → AreTree plan (machines_in plan rec) (disabled_by (machines_in plan rec))

-- the plan gives the states and nothing was done; or the bridges had converged after the last two rounds, within the
-- limits; or the limit of ticks is reached or need not be, and they had not converged after two rounds in a row
abbrev pub EndsAs : ℕ → ℕ → Convergence → NetView → NetView → Type 0
EndsAs most events Given old new = (old.plan.spanning ≡ Fixed) × (new ≡ old)
EndsAs most events (Converged ticks) old new =
    (old.plan.spanning ≡ Rstp) × (2 ≤ ticks) × (ticks ≤ most) × HasGoneRound ticks events old new
    × TellsConverged new.plan new.rec (Some true) × HasLooked (ticks - 1) true true old new × FormTree new.plan new.rec
EndsAs most events (NotConverged ticks) old new =
    (old.plan.spanning ≡ Rstp) × (ticks ≡ most)
    × (rounds : ℕ) × HasGoneRound rounds events old new × IsAtEnd most rounds old new × (2 ≤ rounds → HadNotConverged rounds old new)
