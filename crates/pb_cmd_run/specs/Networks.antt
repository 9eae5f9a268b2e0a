-- The output for the network of a plan file.
use Rattle.std.specs.Prelude.{◌≡◌, ◌⊎◌, ◌&&◌, ℕ, Bool, true, false, List, [], length, All}
use Rattle.std.specs.Io.KnownBytes.{Appends}
use Rattle.std.specs.declared.option.Option.{Option}
use Rattle.std.specs.declared.result.Result.{Result}
use Rattle.pb_frame.specs.declared.memory.Memory.{Memory}
use Rattle.pb_lan.specs.Counts.{IsDrained}
use Rattle.pb_lan.specs.Headline.{IsFaithful}
use Rattle.pb_lan.specs.Records.{IsLawfulRecord}
use Rattle.pb_lan.specs.declared.plan.Plan.{Plan}
use Rattle.pb_lan.specs.declared.record.Record.{Record}
use Rattle.pb_lan.specs.declared.step.Mark.{Mark}
use Rattle.pb_relay.specs.Protocol.{spanning_tree}
use Rattle.pb_report.specs.Refusals.{PrintsRefusal}
use Rattle.pb_workers.specs.Lossless.{NoFullQueueRefuses}
use Rattle.pb_workers.specs.Ports.{Frames}
use Rattle.pb_run.specs.Runs.{TellsEnded}
use Rattle.pb_workers.specs.declared.access.Last.{Last}
use Rattle.pb_workers.specs.declared.access.Last.TheVariants.{End}
use Rattle.pb_run.specs.declared.ended.Ended.{Ended}
use Rattle.pb_run.specs.declared.ended.Ended.TheVariants.{Drained}
use Rattle.pb_service.specs.PlanFiles.{Tells, IsPlanOf, IsLosslessIn}
use Rattle.pb_service.specs.declared.port_spec.PortSpec.{PortSpec}
use Rattle.pb_cmd_run.specs.Carried.{FileOctets, unknown, AreCarried}
use Rattle.pb_cmd_run.specs.Reports.{IsRunReport}
use Rattle.pb_cmd_run.specs.Scripted.{AreScripted}
use Rattle.pb_cmd_run.specs.Unsent.{AreUnsent}
use Rattle.pb_run_losses.specs.Strict.{exit_status, is_whole, lost_text}
use Rattle.pb_run_losses.specs.declared.strictness.Strictness.{Strictness}

-- the report of a run was written, and the exit status is its own, or 4 if the run is strict and was not whole or a file
-- of a port is not (each customer port has its newest poll, and holds these frames, which left and which it did not
-- send)
pub record PrintsReport (strictness : Strictness) (plan : Plan) (rec : Record) (ended : Ended) (settled : Result (Option Bool) Memory) (lasts : List Last) (unsent : List Frames) (status : ℕ) (before after : Option (List ℕ)) : Type 0 where
  pub told : ℕ
  pub text : List ℕ
  pub written : Appends before after text
  pub is_report : IsRunReport plan rec ended settled lasts told text
  pub unsent_count : length unsent ≡ length plan.customers
  pub unsent_is : AreUnsent unsent rec.customers
  pub files_whole : Bool
  pub status_is : status ≡ exit_status strictness (is_whole ended (lost_text plan rec settled unsent) && files_whole) told

-- a plan has run with its ports: the record is lawful and has the guarantees of every run, no full queue refused a copy
-- if the run was lossless, the frames that entered are those that the ports had, the report is that of the record, and
-- the captures that came out of ports have the frames that left there, as far as files are known
pub record PrintsRan (reports : Bool) (was now : FileOctets) (strictness : Strictness) (plan : Plan) (specs : List PortSpec) (lossless : Bool) (status : ℕ) (before after : Option (List ℕ)) : Type 0 where
  pub rec : Record
  pub lawful : IsLawfulRecord spanning_tree plan rec
  pub headline : IsFaithful plan rec
  pub whole : lossless ≡ true → NoFullQueueRefuses rec
  pub lasts : List Last
  pub last_count : length lasts ≡ length plan.customers
  pub scripted : AreScripted specs rec.customers lasts
  pub ended : Ended
  pub tells_ended : TellsEnded plan rec lasts ended
  pub settled : Result (Option Bool) Memory
  pub unsent : List Frames
  pub report : PrintsReport strictness plan rec ended settled lasts unsent status before after
  pub carried : AreCarried reports was now specs rec.customers lasts unsent

-- the plan in the file has run with the ports in the file, lossless if the file says so
pub record PrintsRunOf (reports : Bool) (was now : FileOctets) (strictness : Strictness) (file : List ℕ) (status : ℕ) (before after : Option (List ℕ)) : Type 0 where
  pub plan : Plan
  pub specs : List PortSpec
  pub told : Tells file (λ document. IsPlanOf document plan specs)
  pub lossless : Bool
  pub lossless_told : Tells file (λ document. IsLosslessIn document specs lossless)
  pub prints : PrintsRan reports was now strictness plan specs lossless status before after

-- the output for a plan file, with the exit status and the other files before and after
abbrev pub PrintsNetworkOver : Bool → FileOctets → FileOctets → Strictness → List ℕ → ℕ → Option (List ℕ) → Option (List ℕ) → Type 0
PrintsNetworkOver reports was now strictness file status before after =
    ((status ≡ 1) × PrintsRefusal file before after) ⊎ PrintsRunOf reports was now strictness file status before after

-- the output for a plan file, with the exit status, if nothing is known of other files
abbrev pub PrintsNetwork : Strictness → List ℕ → ℕ → Option (List ℕ) → Option (List ℕ) → Type 0
PrintsNetwork = PrintsNetworkOver false unknown unknown

-- the file is a plan whose network has carried all that entered, and the report that was written is that of its record:
-- each port has come to its end and has given all frames that the file lists for it, each frame that entered has left or
-- was dropped for another reason than a full queue, what left is faithful to what entered, and the loss report is empty
pub record HasCarriedAll (file : List ℕ) (before after : Option (List ℕ)) : Type 0 where
  pub plan : Plan
  pub specs : List PortSpec
  pub told : Tells file (λ document. IsPlanOf document plan specs)
  pub rec : Record
  pub lawful : IsLawfulRecord spanning_tree plan rec
  pub headline : IsFaithful plan rec
  pub lasts : List Last
  pub last_count : length lasts ≡ length plan.customers
  pub ends : All (λ last. last ≡ End) lasts
  pub scripted : AreScripted specs rec.customers lasts
  pub drained : (mark : Mark) → IsDrained plan rec mark
  pub settled : Result (Option Bool) Memory
  pub unsent : List Frames
  pub unsent_count : length unsent ≡ length plan.customers
  pub unsent_is : AreUnsent unsent rec.customers
  pub lost : lost_text plan rec settled unsent ≡ []
  pub text : List ℕ
  pub is_report : IsRunReport plan rec Drained settled lasts 0 text
  pub written : Appends before after text
