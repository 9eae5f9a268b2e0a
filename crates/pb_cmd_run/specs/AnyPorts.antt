-- Ports of any kind.
use Rattle.std.specs.Prelude.{Option, None}
use Rattle.pb_cmd_run.specs.declared.any_port.AnyPort.{AnyPort}
use Rattle.pb_cmd_run.specs.declared.any_port.AnyPort.TheVariants.{Memory, Capture, Socket, Staying, Datagrams}

-- the value that the port of its kind has
abbrev pub of_any : {M C S T U X : Type 0} → (M → X) → (C → X) → (S → X) → (T → X) → (U → X) → AnyPort M C S T U → X
of_any m c s t u (Memory port) = m port
of_any m c s t u (Capture port) = c port
of_any m c s t u (Socket port) = s port
of_any m c s t u (Staying port) = t port
of_any m c s t u (Datagrams port) = u port

-- what a port over files has, if it has it, and nothing for any other port
abbrev pub of_file : {M C S T U X : Type 0} → (C → Option X) → AnyPort M C S T U → Option X
of_file {M} {C} {S} {T} {U} c = of_any (λ (port : M). None) c (λ (port : S). None) (λ (port : T). None) (λ (port : U). None)
