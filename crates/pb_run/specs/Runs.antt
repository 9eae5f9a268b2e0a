-- The guarantee of a run: of its record, its ports and its end.
use Rattle.std.specs.Prelude.{◌≡◌, ◌↔◌, ℕ, Bool, false, IfOk, Option, Result, None, List, [], length, map, vec_len, unwrap_or, All}
use Rattle.std.specs.declared.vec.Vec.{Vec}
use Rattle.pb_frame.specs.declared.memory.Memory.{Memory}
use Rattle.pb_lan.specs.Counts.{IsDrained}
use Rattle.pb_lan.specs.Headline.{IsFaithful}
use Rattle.pb_lan.specs.Laws.{AreTracedFromStart, NoPortIsSet}
use Rattle.pb_lan.specs.Numbering.{numbered}
use Rattle.pb_lan.specs.Records.{steps_of, IsLawfulRecord}
use Rattle.pb_lan.specs.declared.plan.Plan.{Plan}
use Rattle.pb_lan.specs.declared.plan.Spanning.TheVariants.{Fixed}
use Rattle.pb_lan.specs.declared.record.Record.{Record}
use Rattle.pb_lan.specs.declared.step.Mark.{Mark}
use Rattle.pb_lan.specs.declared.step.Step.{Step}
use Rattle.pb_relay.specs.Protocol.{spanning_tree}
use Rattle.pb_relay.specs.Settled.{TellsSettled}
use Rattle.pb_workers.specs.Ports.{Frames, PortFrames, KeepsPort}
use Rattle.pb_workers.specs.declared.access.Last.{Last}
use Rattle.pb_workers.specs.declared.access.Last.TheVariants.{More, End}
use Rattle.pb_run.specs.declared.ended.Ended.{Ended}
use Rattle.pb_run.specs.declared.ended.Ended.TheVariants.{Drained}
use Rattle.pb_run.specs.declared.fault.RunCause.{RunCause}
use Rattle.pb_run.specs.declared.fault.RunCause.TheVariants.{PortCount}

-- the frames of the port of this number, if it keeps them as a list
abbrev pub frames_of : List (Option Frames) → ℕ → Option Frames
frames_of lists number = unwrap_or (numbered lists number) None

-- the result of the newest poll of the port of this number
abbrev pub last_of : List Last → ℕ → Last
last_of lasts number = unwrap_or (numbered lasts number) More

-- a port without frames, for a number that no port has
abbrev pub no_port : PortFrames
no_port = record {
  script = None;
  unread = None;
  given = [];
  tally = [];
  waiting = [];
  is_over = false;
  output = None;
}

-- the port of this number
abbrev pub port_of : List PortFrames → ℕ → PortFrames
port_of ports number = unwrap_or (numbered ports number) no_port

-- each port gave what entered there and took what left, and frames were given up only where `KeepsPort` allows it
pub record ArePortsKept (before after : List PortFrames) (customers : List (List Step)) (lasts : List Last) : Type 0 where
  pub port_count : length after ≡ length before
  pub last_count : length lasts ≡ length before
  pub kept : (number : ℕ) → KeepsPort (port_of before number) (port_of after number) (steps_of customers number) (last_of lasts number)

-- the run reports that it has drained exactly if every port came to its end and every frame has drained
abbrev pub TellsEnded : Plan → Record → List Last → Ended → Type 0
TellsEnded plan rec lasts ended = (ended ≡ Drained) ↔ (All (λ last. last ≡ End) lasts × ((mark : Mark) → IsDrained plan rec mark))

-- the steps of a run are a lawful record, faithful to what entered, and frames were handled under the start if the plan
-- gives the states and no port was set
pub record IsTrueRecord (plan : Plan) (counts : Record) : Type 0 where
  pub lawful : IsLawfulRecord spanning_tree plan counts
  pub headline : IsFaithful plan counts
  pub planned : plan.spanning ≡ Fixed → NoPortIsSet counts → AreTracedFromStart plan counts

-- the guarantee of a run: its record is lawful and faithful to what entered, its ports gave what entered and took what
-- left, its reports of its end and of its spanning trees are true, and there was one port for each customer port of the
-- plan. This is what contracts see of a port
pub record IsRun {P Z : Type 0} (view : P → PortFrames) (plan : Plan) (before after : Vec P Z) (counts : Record)
    (lasts : List Last) (end : Ended) (answer : Result (Option Bool) Memory) : Type 0 where
  pub steps : IsTrueRecord plan counts
  pub ports : ArePortsKept (map view before.items) (map view after.items) counts.customers lasts
  pub ended : TellsEnded plan counts lasts end
  pub settled : IfOk answer (TellsSettled plan counts)
  pub count : vec_len before ≡ length plan.customers

-- a plan was not run: the cause is PortCount exactly if there were too few ports or too many, and the ports come back
-- unchanged
pub record HasNotRun {P Z : Type 0} (plan : Plan) (before after : Vec P Z) (cause : RunCause) : Type 0 where
  pub counted : (cause ≡ PortCount) ↔ (vec_len before ≡ length plan.customers → ⊥)
  pub unpolled : after.items ≡ before.items
