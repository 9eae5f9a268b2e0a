-- The printed report of a run.
use Rattle.std.specs.Prelude.{◌≡◌, ℕ, Bool, List, [], ◌∷◌, ◌++◌, Ok, Err, IfOk, codes}
use Rattle.std.specs.declared.option.Option.{Option}
use Rattle.std.specs.declared.result.Result.{Result}
use Rattle.std.specs.Fmt.{decimal}
use Rattle.pb_frame.specs.declared.memory.Memory.{Memory}
use Rattle.pb_lan.specs.declared.plan.CustomerPlan.{CustomerPlan}
use Rattle.pb_lan.specs.declared.plan.Plan.{Plan}
use Rattle.pb_lan.specs.declared.record.Record.{Record}
use Rattle.pb_relay.specs.Settled.{TellsSettled}
use Rattle.pb_port.specs.Faults.{fault_number}
use Rattle.pb_workers.specs.declared.access.Last.{Last}
use Rattle.pb_workers.specs.declared.access.Last.TheVariants.{More, End, Fault}
use Rattle.pb_run.specs.declared.ended.Ended.{Ended}
use Rattle.pb_run.specs.declared.ended.Ended.TheVariants.{Drained, NoMemory, Limit, Stopped}
use Rattle.pb_report.specs.RecordTexts.{settled_line, IsRecordText}

-- the line that says how a run ended
abbrev pub ended_line : Ended → List ℕ
ended_line Drained = codes "ended drained" ++ 10 ∷ []
ended_line Stopped = codes "ended stopped" ++ 10 ∷ []
ended_line Limit = codes "ended limit" ++ 10 ∷ []
ended_line NoMemory = codes "ended memory" ++ 10 ∷ []

-- whether the bridges have settled, if this is known and the spanning tree decides the states
abbrev pub settled_lines : Result (Option Bool) Memory → List ℕ
settled_lines (Ok answer) = settled_line answer
settled_lines (Err memory) = []

-- the line that an allocation failed in finding it
abbrev pub memory_line : Result (Option Bool) Memory → List ℕ
memory_line (Ok answer) = []
memory_line (Err memory) = codes "fault: memory" ++ 10 ∷ []

-- the line for a fault of a customer port's input
abbrev pub fault_line : List ℕ → ℕ → List ℕ
fault_line name number = codes "fault: port " ++ name ++ codes " " ++ decimal number ++ 10 ∷ []

-- the line for the newest poll of a port, if that was a fault
abbrev pub fault_at : List ℕ → Last → List ℕ
fault_at name (Fault fault) = fault_line name (fault_number fault)
fault_at name More = []
fault_at name End = []

-- a line for each customer port whose input has a fault, in the order of the plan
abbrev pub fault_lines : List CustomerPlan → List Last → List ℕ
fault_lines (customer ∷ customers) (last ∷ lasts) = fault_at customer.name last ++ fault_lines customers lasts
fault_lines _ _ = []

-- the exit status: 3 if there are lines for faults
abbrev pub status_of : List ℕ → ℕ
status_of [] = 0
status_of (code ∷ codes) = 3

-- the report of a run, and the exit status
pub record IsRunReport (plan : Plan) (rec : Record) (ended : Ended) (settled : Result (Option Bool) Memory) (lasts : List Last) (status : ℕ) (text : List ℕ) : Type 0 where
  pub told : List ℕ
  pub is_told : IsRecordText plan rec told
  pub is_answer : IfOk settled (TellsSettled plan rec)
  pub faults : List ℕ
  pub faults_are : faults ≡ fault_lines plan.customers lasts ++ memory_line settled
  pub text_is : text ≡ ended_line ended ++ told ++ settled_lines settled ++ faults
  pub status_is : status ≡ status_of faults
