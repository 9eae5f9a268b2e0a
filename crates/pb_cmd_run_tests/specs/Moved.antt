-- A run between files, in the words of its files alone.
use Rattle.std.specs.Prelude.{◌≡◌, ◌++◌, ℕ, List, Option, Some, map}
use Rattle.pb_lan.specs.Counts.{entered, left}
use Rattle.pb_lan.specs.Records.{IsLawfulRecord, steps_of}
use Rattle.pb_lan.specs.declared.plan.Plan.{Plan}
use Rattle.pb_lan.specs.declared.record.Record.{Record}
use Rattle.pb_port.specs.Inputs.{decoded}
use Rattle.pb_port.specs.declared.stream_position.StreamPosition.TheVariants.{Header}
use Rattle.pb_relay.specs.Protocol.{spanning_tree}
use Rattle.pb_run_ports.specs.Opened.{octets_in}
use Rattle.pb_service.specs.PlanFiles.{Tells, IsPlanOf}
use Rattle.pb_service.specs.declared.port_spec.PortSpec.{PortSpec}
use Rattle.pb_workers.specs.Ports.{Frames}
use Rattle.pb_cmd_run.specs.Carried.{FileOctets, IsLast, found, written_path}

-- the frames begin with these
pub record BeginsWith (frames whole : Frames) : Type 0 where
  pub more : Frames
  pub both : whole ≡ frames ++ more

-- The plan in the file has run. What entered at a port that read a file begins the frames in it. The frames in the file
-- that a port wrote, and no later one, begin those that left there.
pub record HasMoved (was now : FileOctets) (file : List ℕ) : Type 0 where
  pub plan : Plan
  pub specs : List PortSpec
  pub told : Tells file (λ document. IsPlanOf document plan specs)
  pub rec : Record
  pub lawful : IsLawfulRecord spanning_tree plan rec
  pub read : (number : ℕ) (octets : List ℕ) → found (map (octets_in was) specs) number ≡ Some octets
      → BeginsWith (entered (steps_of rec.customers number)) (decoded Header octets)
  pub wrote : (number : ℕ) (path : List ℕ) → found (map written_path specs) number ≡ Some path
      → IsLast (map written_path specs) number path
      → (octets : List ℕ) × (now path ≡ Some octets) × BeginsWith (decoded Header octets) (left (steps_of rec.customers number))
