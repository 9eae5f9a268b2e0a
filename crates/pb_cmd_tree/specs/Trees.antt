-- The command: links, bridges and ports are disabled, the bridges converge, and the trees are printed.
use Rattle.std.specs.Prelude.{◌≡◌, ℕ, List, Some, None, Option}
use Rattle.std.specs.Io.KnownBytes.{Appends, Keeps}
use Rattle.std.specs.Global.{Global}
use Rattle.std.specs.declared.string.String.{String}
use Rattle.pb_converge.specs.Enough.{HasEnoughMemory}
use Rattle.pb_converge.specs.Falls.{HaveFallen, IsRefused, down_count, fresh}
use Rattle.pb_converge.specs.declared.falling.DownFault.{DownFault}
use Rattle.pb_lan.specs.Records.{IsLawfulRecord}
use Rattle.pb_lan.specs.declared.plan.Plan.{Plan}
use Rattle.pb_net.specs.Answers.{NetView}
use Rattle.pb_relay.specs.Protocol.{spanning_tree}
use Rattle.pb_report.specs.PlanFiles.{IsToldBy}
use Rattle.pb_report.specs.Refusals.{PrintsRefusal}
use Rattle.pb_converge.specs.Drives.{EndsAs, ReachesLimit}
use Rattle.pb_converge.specs.declared.convergence.Convergence.{Convergence}
use Rattle.pb_cmd_tree.specs.TreeTexts.{IsTreeText}
use Rattle.pb_cmd_tree.specs.declared.end.TreeEnd.{TreeEnd}
use Rattle.pb_cmd_tree.specs.declared.end.TreeEnd.TheVariants.{Told, Refused, NoDown}

-- each bridge ticks at most so many times, and the text has the trees at the end, which are those of a lawful record in
-- which no allocation failed
pub record AreTreesFrom (plan : Plan) (ticks : ℕ) (fallen : NetView) (text : List ℕ) : Type 0 where
  pub last : NetView
  pub convergence : Convergence
  pub ends : EndsAs ticks 1000000000 convergence fallen last
  pub planned : last.plan ≡ plan
  pub lawful : IsLawfulRecord spanning_tree plan last.rec
  pub enough : HasEnoughMemory last.rec
  pub trees : IsTreeText plan last.rec convergence text

-- what the names disable is disabled first
pub record AreTrees (plan : Plan) (downs : List (String Global)) (ticks : ℕ) (text : List ℕ) : Type 0 where
  pub fallen : NetView
  pub falls : HaveFallen plan downs fallen
  pub trees : AreTreesFrom plan ticks fallen text

-- the text to print, or why a name is refused
abbrev pub ReturnsTrees : Plan → List (String Global) → ℕ → Option DownFault → List ℕ → Type 0
ReturnsTrees plan downs ticks None text = AreTrees plan downs ticks text
ReturnsTrees plan downs ticks (Some fault) text = IsRefused plan downs fault

-- the trees were printed after the earlier output; or a name is refused, and nothing was printed
abbrev pub HasPrinted : Plan → List (String Global) → ℕ → Option DownFault → Option (List ℕ) → Option (List ℕ) → Type 0
HasPrinted plan downs ticks None before after = (text : List ℕ) × Appends before after text × AreTrees plan downs ticks text
HasPrinted plan downs ticks (Some fault) before after = IsRefused plan downs fault × Keeps before after

-- what the command has printed: the trees of the plan in the file, or the rule that the file breaks
abbrev pub HasTold : List ℕ → List (String Global) → ℕ → TreeEnd → Option (List ℕ) → Option (List ℕ) → Type 0
HasTold file downs ticks Told before after = (plan : Plan) × IsToldBy file plan × HasPrinted plan downs ticks None before after
HasTold file downs ticks Refused before after = PrintsRefusal file before after
HasTold file downs ticks (NoDown fault) before after = (plan : Plan) × IsToldBy file plan × HasPrinted plan downs ticks (Some fault) before after

-- The network of the plan in the file reaches the limit of steps of a place, or a billion events that carry on what is
-- on its way. Each bridge ticks at most so many times, no frame is polled, and only what the names disable is disabled.
abbrev pub RunsIntoLimit : List ℕ → List (String Global) → ℕ → Type 0
RunsIntoLimit file downs ticks =
    (plan : Plan) × IsToldBy file plan × ReachesLimit ticks 0 (down_count plan downs) 1000000000 (fresh plan)
