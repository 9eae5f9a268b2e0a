-- The frames that a plan file lists for its ports.
use Rattle.std.specs.Prelude.{◌≡◌, ℕ, Option, Some, None, List, map}
use Rattle.pb_cmd_run.specs.AnyPorts.{of_any}
use Rattle.pb_cmd_run.specs.declared.any_port.AnyPort.{AnyPort}
use Rattle.pb_lan.specs.Counts.{entered}
use Rattle.pb_lan.specs.Records.{steps_of}
use Rattle.pb_lan.specs.declared.step.Step.{Step}
use Rattle.pb_workers.specs.Ports.{in_front, IsEnded}
use Rattle.pb_run.specs.Runs.{frames_of, last_of}
use Rattle.pb_workers.specs.declared.access.Last.{Last}
use Rattle.pb_port.specs.declared.memory.MemoryPort.{MemoryPort}
use Rattle.pb_service.specs.declared.port_spec.PortSpec.{PortSpec}
use Rattle.pb_run_ports.specs.Opened.{script_in}

-- the frames that a port in memory has not given yet, or a port over files, if it has a script
abbrev pub script_at : {F S T U : Type 0} → (F → Option (List (List ℕ))) → AnyPort MemoryPort F S T U → Option (List (List ℕ))
script_at {F} {S} {T} {U} script = of_any (λ (port : MemoryPort). Some port.script.items) script (λ (port : S). None)
    (λ (port : T). None) (λ (port : U). None)

-- at each port whose frames the file lists, the first of them entered, and all of them if the port came to its end
pub record AreScripted (specs : List PortSpec) (customers : List (List Step)) (lasts : List Last) : Type 0 where
  pub rest : List (Option (List (List ℕ)))
  pub begun : (number : ℕ) → frames_of (map script_in specs) number ≡ in_front (entered (steps_of customers number)) (frames_of rest number)
  pub used_up : (number : ℕ) → IsEnded (last_of lasts number) (frames_of rest number)
