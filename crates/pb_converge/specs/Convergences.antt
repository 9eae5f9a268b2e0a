-- Convergence for commands, and the line that reports it.
use Rattle.std.specs.Prelude.{ℕ, List, [], ◌∷◌, ◌++◌, codes}
use Rattle.std.specs.Fmt.{decimal}
use Rattle.pb_lan.specs.declared.plan.Spanning.{Spanning}
use Rattle.pb_lan.specs.declared.plan.Spanning.TheVariants.{Fixed, Rstp}
use Rattle.pb_messages.specs.declared.fault.CommandFault.{CommandFault}
use Rattle.pb_messages.specs.declared.fault.CommandFault.TheVariants.{Steps, Memory}
use Rattle.pb_converge.specs.declared.fault.DriveFault.{DriveFault}
use Rattle.pb_converge.specs.declared.fault.DriveFault.TheVariants.{Memory as drive_memory, Steps as drive_steps, Events as drive_events}
use Rattle.pb_converge.specs.declared.convergence.Convergence.{Convergence}
use Rattle.pb_converge.specs.declared.convergence.Convergence.TheVariants.{Given, Converged, NotConverged}

-- the command's fault for a network that could not be driven
abbrev pub fault_of : DriveFault → CommandFault
fault_of drive_memory = Memory
fault_of drive_steps = Steps
fault_of drive_events = Steps

-- the line that reports whether the bridges have converged, and after how many ticks of each
abbrev pub convergence_line : Convergence → List ℕ
convergence_line Given = []
convergence_line (Converged ticks) = codes "converged ticks " ++ decimal ticks ++ 10 ∷ []
convergence_line (NotConverged ticks) = codes "not converged ticks " ++ decimal ticks ++ 10 ∷ []

-- the outcome is `Given` exactly if the plan gives the states
abbrev pub IsConvergenceIn : Spanning → Convergence → Type 0
IsConvergenceIn Fixed Given = Unit {0}
IsConvergenceIn Rstp (Converged ticks) = Unit {0}
IsConvergenceIn Rstp (NotConverged ticks) = Unit {0}
IsConvergenceIn Fixed (Converged ticks) = ⊥
IsConvergenceIn Fixed (NotConverged ticks) = ⊥
IsConvergenceIn Rstp Given = ⊥
