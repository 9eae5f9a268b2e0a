-- What a caller may take from a run, a clause for each part of its guarantee.
use Rattle.std.specs.Prelude.{◌≡◌, ◌≤◌, ◌++◌, ◌↔◌, ℕ, Bool, false, List, length, All, IfOk}
use Rattle.std.specs.declared.option.Option.{Option}
use Rattle.std.specs.declared.result.Result.{Result}
use Rattle.pb_frame.specs.declared.memory.Memory.{Memory}
use Rattle.pb_lan.specs.Counts.{entered, left, IsDrained}
use Rattle.pb_lan.specs.Headline.{IsFaithful}
use Rattle.pb_lan.specs.Records.{steps_of, IsLawfulRecord}
use Rattle.pb_lan.specs.declared.plan.Plan.{Plan}
use Rattle.pb_lan.specs.declared.record.Record.{Record}
use Rattle.pb_lan.specs.declared.step.Mark.{Mark}
use Rattle.pb_lan.specs.declared.step.Step.{Step}
use Rattle.pb_relay.specs.Protocol.{spanning_tree}
use Rattle.pb_relay.specs.Settled.{TellsSettled}
use Rattle.pb_run.specs.Runs.{port_of, last_of}
use Rattle.pb_run.specs.declared.ended.Ended.{Ended}
use Rattle.pb_run.specs.declared.ended.Ended.TheVariants.{Drained}
use Rattle.pb_port.specs.Outputs.{IsWrittenTo}
use Rattle.pb_workers.specs.Ports.{PortFrames, HasRead, HasSent, in_front, given_up, IsEnded}
use Rattle.pb_workers.specs.declared.access.Last.{Last}
use Rattle.pb_workers.specs.declared.access.Last.TheVariants.{End}

-- what each port gave, took, sent and gave up
pub record PortsTell (before after : List PortFrames) (customers : List (List Step)) (lasts : List Last) : Type 0 where
  pub port_count : length after ≡ length before
  pub last_count : length lasts ≡ length before
  pub given : (number : ℕ) → (port_of after number).given ≡ (port_of before number).given ++ entered (steps_of customers number)
  pub tally : (number : ℕ) → (port_of after number).tally ≡ (port_of before number).tally ++ left (steps_of customers number)
  pub script : (number : ℕ) → (port_of before number).script ≡ in_front (entered (steps_of customers number)) (port_of after number).script
  pub used_up : (number : ℕ) → IsEnded (last_of lasts number) (port_of after number).script
  pub unsent : (number : ℕ) → HasSent ((port_of before number).waiting ++ left (steps_of customers number)) (port_of after number).waiting
  pub read : (number : ℕ) → HasRead (last_of lasts number) (port_of before number).unread (entered (steps_of customers number)) (port_of after number).unread
  pub wrote : (number : ℕ) → ∥ IsWrittenTo (port_of before number).output (port_of after number).output (unsent number).sent ∥₁
  pub gone : (number : ℕ) → (port_of after number).is_over ≡ false → All (λ f. 65536 ≤ length f) (given_up (steps_of customers number))

-- the record is lawful and faithful, the ports tell the same, and so do the ends of the run
pub record RunTells (plan : Plan) (before after : List PortFrames) (rec : Record) (lasts : List Last) (end : Ended)
    (settled : Result (Option Bool) Memory) : Type 0 where
  pub lawful : IsLawfulRecord spanning_tree plan rec
  pub faithful : IsFaithful plan rec
  pub ports : PortsTell before after rec.customers lasts
  pub drained : (end ≡ Drained) ↔ (All (λ last. last ≡ End) lasts × ((mark : Mark) → IsDrained plan rec mark))
  pub settled_is : IfOk settled (TellsSettled plan rec)
