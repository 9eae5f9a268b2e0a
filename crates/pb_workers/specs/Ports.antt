-- What the steps of a customer port imply for the port outside.
use Rattle.std.specs.Prelude.{◌≡◌, ◌≤◌, ⊤, Bool, false, ◌||◌, Option, Some, None, List, ◌++◌, [], All, map, length}
use Rattle.std.specs.List.{filter}
use Rattle.pb_lan.specs.Counts.{entered, left}
use Rattle.pb_lan.specs.PortLists.{all_delivered}
use Rattle.pb_lan.specs.declared.step.Step.{Step}
use Rattle.pb_port.specs.declared.port.Port.{Ghosts}
use Rattle.pb_port.specs.Faults.{IsOfOctets}
use Rattle.pb_port.specs.Outputs.{OutputState, IsWrittenTo}
pub use Rattle.pb_port.specs.Ports.{Frames}
use Rattle.pb_workers.specs.declared.access.Last.{Last}
use Rattle.pb_workers.specs.declared.access.Last.TheVariants.{More, End, Fault}

-- a list that is kept, with these frames before it
abbrev pub in_front : Frames → Option Frames → Option Frames
in_front frames (Some list) = Some (frames ++ list)
in_front frames None = None

-- if a script is kept, nothing of it remains
abbrev pub IsUsedUp : Option Frames → Type 0
IsUsedUp (Some list) = list ≡ []
IsUsedUp None = ⊤

-- if the newest poll reported the end, nothing of the port's script remains
abbrev pub IsEnded : Last → Option Frames → Type 0
IsEnded More script = ⊤
IsEnded End script = IsUsedUp script
IsEnded (Fault fault) script = ⊤

-- the frames that the customer port gave up because the port outside takes no more of them
abbrev pub given_up : List Step → Frames
given_up steps = map (λ d. d.item.wire) (filter (λ d. d.gone) (all_delivered steps))

-- of all these frames the first were sent, and the others wait
pub record HasSent (all waiting : Frames) : Type 0 where
  pub sent : Frames
  pub both : sent ++ waiting ≡ all

-- after the end, and after a fault of the octets, no frame is unread
abbrev pub IsReadUp : Last → Frames → Type 0
IsReadUp More unread = ⊤
IsReadUp End unread = unread ≡ []
IsReadUp (Fault fault) unread = IsOfOctets fault → unread ≡ []

-- these frames are the first of those that were unread, and the others still are, if they are known
abbrev pub HasRead : Last → Option Frames → Frames → Option Frames → Type 0
HasRead last None frames unread = ⊤
HasRead last (Some was) frames None = ⊥
HasRead last (Some was) frames (Some unread) = (was ≡ frames ++ unread) × IsReadUp last unread

-- what contracts see of a port outside: its lists, whether it was shelved or a write of it failed, and the octets that
-- it wrote
pub record PortFrames : Type 0 where
  pub script : Option Frames
  pub unread : Option Frames
  pub given : Frames
  pub tally : Frames
  pub waiting : Frames
  pub is_over : Bool
  pub output : Option OutputState

abbrev pub port_frames : {P : Type 0} → Ghosts P → P → PortFrames
port_frames port p = record {
  script = port.script p;
  unread = port.unread p;
  given = port.given p;
  tally = port.tally p;
  waiting = port.waiting p;
  is_over = port.is_shelved p || port.is_failed p;
  output = port.output p;
}

-- what the port gave to this worker is what entered, and what it took from the worker is what left. What it sent,
-- followed by what waits in it, is what waited before, followed by what left. Unless the port is over, only frames that
-- no port takes were given up. As far as its octets are known, those that it read contain the frames that entered, and
-- those that it wrote are the encoding of the frames that it sent
pub record KeepsPort (was port : PortFrames) (steps : List Step) (last : Last) : Type 0 where
  pub given : port.given ≡ was.given ++ entered steps
  pub tally : port.tally ≡ was.tally ++ left steps
  pub script : was.script ≡ in_front (entered steps) port.script
  pub used_up : IsEnded last port.script
  pub unsent : HasSent (was.waiting ++ left steps) port.waiting
  pub read : HasRead last was.unread (entered steps) port.unread
  pub wrote : ∥ IsWrittenTo was.output port.output unsent.sent ∥₁
  pub gone : port.is_over ≡ false → All (λ f. 65536 ≤ length f) (given_up steps)
