-- The reasons why a network is not run.
use Rattle.std.specs.Prelude.{ℕ, List}
use Rattle.pb_lan.specs.declared.plan.Plan.{Plan}
use Rattle.pb_messages.specs.declared.fault.CommandFault.{CommandFault}
use Rattle.pb_messages.specs.declared.fault.CommandFault.TheVariants.{Read, Write as unwritten, Steps, Memory as unheld}
use Rattle.pb_run.specs.declared.fault.RunCause.{RunCause}
use Rattle.pb_run.specs.declared.fault.RunCause.TheVariants.{PortCount, Memory as no_memory, Spawn as no_thread}
use Rattle.pb_cmd_run.specs.declared.network_fault.NetworkFault.{NetworkFault}
use Rattle.pb_cmd_run.specs.declared.network_fault.NetworkFault.TheVariants.{Path, Write, Memory, Spawn, Ports}
use Rattle.pb_service.specs.PlanFiles.{Tells, IsPlanOf}
use Rattle.pb_service.specs.declared.port_spec.PortSpec.{PortSpec}

-- the fault for a text that is not written: the write failed, or else an allocation did
abbrev pub of_command : CommandFault → NetworkFault
of_command unwritten = Write
of_command Read = Memory
of_command Steps = Memory
of_command unheld = Memory

-- the fault for a run that did not begin
abbrev pub of_cause : RunCause → NetworkFault
of_cause PortCount = Ports
of_cause no_memory = Memory
of_cause no_thread = Spawn

-- the file contains a plan, with the kinds of its customer ports
pub record IsPlanFile (file : List ℕ) : Type 0 where
  pub plan : Plan
  pub specs : List PortSpec
  pub told : Tells file (λ document. IsPlanOf document plan specs)

-- a fault that is possible for a file: no path is opened and no thread started unless the file is a plan, and the
-- number of ports is always right
abbrev pub ComesOf : List ℕ → NetworkFault → Type 0
ComesOf file Path = IsPlanFile file
ComesOf file Spawn = IsPlanFile file
ComesOf file Ports = ⊥
ComesOf file Write = Unit {0}
ComesOf file Memory = Unit {0}
