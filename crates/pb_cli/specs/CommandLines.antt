-- The command lines that the program accepts.
use Rattle.std.specs.Prelude.{◌≡◌, ◌⊎◌, ℕ, ◌≤◌, List, Some, None, IfSome, codes, string_bytes}
use Rattle.std.specs.declared.option.Option.{Option}
use Rattle.pb_cli.specs.declared.frame_arguments.TraceFrame.{TraceFrame}
use Rattle.pb_cli.specs.declared.init_options.InitNetwork.{InitNetwork}
use Rattle.pb_cli.specs.declared.init_options.InitNetwork.TheVariants.{Line, Ring, Star, DualHomed}
use Rattle.pb_cli.specs.declared.init_options.InitOptions.{InitOptions}
use Rattle.pb_cli.specs.declared.trace_options.TraceOptions.{TraceOptions}
use Rattle.pb_cli.specs.declared.command_line.CommandLine.{CommandLine}
use Rattle.pb_cli.specs.declared.command_line.CommandLine.TheVariants.{Flat, Check, Step, Run, Tree, Trace}
use Rattle.pb_cli.specs.declared.command_line.CommandLine.TheVariants.{Show, Init, Survive, Diff, Draw, Report, Control}

-- a run is stopped after 1 to 1,000,000,000 seconds, or not
abbrev pub AreSeconds : Option ℕ → Type 0
AreSeconds None = Unit {0}
AreSeconds (Some seconds) = (1 ≤ seconds) × (seconds ≤ 1000000000)

-- ports have 0 to 60,000 milliseconds to write their remaining frames
abbrev pub IsLinger : ℕ → Type 0
IsLinger linger = linger ≤ 60000

-- each bridge ticks 1 to 1,000,000 times at most
abbrev pub AreTicks : ℕ → Type 0
AreTicks ticks = (1 ≤ ticks) × (ticks ≤ 1000000)

-- a line has 1 to 32 bridges, a ring 3 to 32, and a star 2 to 17; there are 2 to 24 dual-homed bridges
abbrev pub IsNetwork : InitNetwork → Type 0
IsNetwork (Line bridges) = (1 ≤ bridges) × (bridges ≤ 32)
IsNetwork (Ring bridges) = (3 ≤ bridges) × (bridges ≤ 32)
IsNetwork (Star bridges) = (2 ≤ bridges) × (bridges ≤ 17)
IsNetwork (DualHomed access) = (2 ≤ access) × (access ≤ 24)

-- the network of the argument that is present; without one, a line of two
abbrev pub IsAsked : Option ℕ → Option ℕ → Option ℕ → Option ℕ → InitNetwork → Type 0
IsAsked line ring star dual network =
    ((line ≡ None) × (ring ≡ None) × (star ≡ None) × (dual ≡ None) × (network ≡ Line 2))
    ⊎ ((n : ℕ) × (line ≡ Some n) × (ring ≡ None) × (star ≡ None) × (dual ≡ None) × (network ≡ Line n))
    ⊎ ((n : ℕ) × (line ≡ None) × (ring ≡ Some n) × (star ≡ None) × (dual ≡ None) × (network ≡ Ring n))
    ⊎ ((n : ℕ) × (line ≡ None) × (ring ≡ None) × (star ≡ Some n) × (dual ≡ None) × (network ≡ Star n))
    ⊎ ((n : ℕ) × (line ≡ None) × (ring ≡ None) × (star ≡ None) × (dual ≡ Some n) × (network ≡ DualHomed n))

-- a starter plan has 1 to 4 services
abbrev pub AreServices : ℕ → Type 0
AreServices services = (1 ≤ services) × (services ≤ 4)

abbrev pub AreInitOptions : InitOptions → Type 0
AreInitOptions options = IsNetwork options.network × AreServices options.services

-- a priority is 0 to 7
abbrev pub IsPriority : ℕ → Type 0
IsPriority pcp = pcp ≤ 7

-- a frame is filled with zeros to 14 to 65,535 octets
abbrev pub IsLength : ℕ → Type 0
IsLength length = (14 ≤ length) × (length ≤ 65535)

-- the numbers among the options that describe a frame
abbrev pub AreFrameOptions : TraceFrame → Type 0
AreFrameOptions frame = IfSome frame.pcp IsPriority × IfSome frame.length IsLength

abbrev pub AreTraceOptions : TraceOptions → Type 0
AreTraceOptions trace = IfSome trace.settle AreTicks × IfSome trace.frame AreFrameOptions

-- the numbers of a command line are in their ranges
abbrev pub HasValidArguments : CommandLine → Type 0
HasValidArguments (Flat ports) = (2 ≤ ports) × (ports ≤ 16)
HasValidArguments (Check options) = IfSome options.settle AreTicks
HasValidArguments (Step report) = Unit {0}
HasValidArguments (Run run) = AreSeconds run.seconds × IsLinger run.linger
HasValidArguments (Tree tree) = AreTicks tree.ticks
HasValidArguments (Trace trace) = AreTraceOptions trace
HasValidArguments Show = Unit {0}
HasValidArguments (Init options) = AreInitOptions options
HasValidArguments (Survive options) = AreTicks options.ticks
HasValidArguments (Diff options) = AreTicks options.ticks
HasValidArguments (Draw options) = AreTicks options.ticks
HasValidArguments (Report options) = AreTicks options.ticks
HasValidArguments (Control control) = Unit {0}

-- the command line of a command over the plan file at a path, with numbers in their ranges
abbrev pub IsPlanCommandLine : List ℕ → List ℕ → CommandLine → Type 0
IsPlanCommandLine command path (Check options) =
    (command ≡ codes "check") × (string_bytes options.path ≡ path) × IfSome options.settle AreTicks
IsPlanCommandLine command path (Step report) = (command ≡ codes "step") × (string_bytes report.path ≡ path)
IsPlanCommandLine command path (Run run) =
    (command ≡ codes "run") × (string_bytes run.path ≡ path) × AreSeconds run.seconds × IsLinger run.linger
IsPlanCommandLine command path (Tree tree) =
    (command ≡ codes "tree") × (string_bytes tree.path ≡ path) × AreTicks tree.ticks
IsPlanCommandLine command path (Trace trace) =
    (command ≡ codes "trace") × (string_bytes trace.path ≡ path) × AreTraceOptions trace
IsPlanCommandLine command path (Survive options) =
    (command ≡ codes "survive") × (string_bytes options.path ≡ path) × AreTicks options.ticks
IsPlanCommandLine command path (Draw options) =
    (command ≡ codes "draw") × (string_bytes options.path ≡ path) × AreTicks options.ticks
IsPlanCommandLine command path (Report options) =
    (command ≡ codes "report") × (string_bytes options.path ≡ path) × AreTicks options.ticks
IsPlanCommandLine command path _ = ⊥
