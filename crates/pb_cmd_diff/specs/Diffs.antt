-- The text that `diff` prints for two plan files.
use Rattle.std.specs.Prelude.{◌≡◌, ◌⊎◌, ℕ, Bool, List, true, false, if◌then◌else◌}
use Rattle.pb_lan.specs.declared.plan.Plan.{Plan}
use Rattle.pb_report.specs.PlanFiles.{IsToldBy}
use Rattle.pb_report.specs.Refusals.{IsRefusalText}
use Rattle.pb_cmd_survive.specs.Survivals.{most_events}
use Rattle.pb_cmd_diff.specs.Cases.{calm, all_cases}
use Rattle.pb_cmd_diff.specs.Compared.{old_services, is_found, no_such_line}
use Rattle.pb_cmd_diff.specs.Ends.{AreEnds}
use Rattle.pb_cmd_diff.specs.Effects.{IsEffect, AreEffects}
use Rattle.pb_cmd_diff.specs.Reports.{diff_text}
use Rattle.pb_cmd_diff.specs.Verdicts.{worsens}
use Rattle.pb_cmd_diff.specs.declared.diff.Asked.{Asked}
use Rattle.pb_cmd_diff.specs.declared.end.DiffEnd.{DiffEnd}
use Rattle.pb_cmd_diff.specs.declared.end.DiffEnd.TheVariants.{Kept, Worse, Lacking, OldRefused, NewRefused}
use Rattle.pb_cmd_diff.specs.declared.ends.LinkEnds.{LinkEnds}
use Rattle.pb_cmd_diff.specs.declared.effect.Effect.{Effect}
use Rattle.pb_cmd_diff.specs.declared.effect.Sides.{Sides}

-- how the command ends if something got worse or nothing did
abbrev pub end_of : Bool → DiffEnd
end_of worse = if worse then Worse else Kept

-- the report on two plans from what their networks do, with the ends of their links with nothing down
pub record IsCompared (old new : Plan) (ticks events : ℕ) (all : Bool) (base : Effect) (effects : List Effect) (end : DiffEnd) (text : List ℕ) : Type 0 where
  pub olds : List LinkEnds
  pub are_olds : AreEnds old ticks events olds
  pub news : List LinkEnds
  pub are_news : AreEnds new ticks events news
  pub text_is : text ≡ diff_text old new all base effects olds news
  pub end_is : end ≡ end_of (worsens base effects)

-- the same for two networks that are up
abbrev pub IsComparedOn : Sides → Bool → Effect → List Effect → DiffEnd → List ℕ → Type 0
IsComparedOn s all base effects end text =
    IsCompared s.old.now.plan.now s.new.now.plan.now s.old.now.patience.ticks s.old.now.patience.events all base effects end text

-- the report on two plans, whose networks are driven within these limits: with nothing down, and under each failure of either
pub record IsReportWith (old new : Plan) (services : List ℕ) (ticks events : ℕ) (asked : Asked) (end : DiffEnd) (text : List ℕ) : Type 0 where
  pub base : Effect
  pub is_base : IsEffect old new services ticks events calm base
  pub effects : List Effect
  pub are_effects : AreEffects old new services ticks events (all_cases old new asked.kinds) effects
  pub compared : IsCompared old new ticks events asked.all base effects end text

-- the same for two networks that are up
abbrev pub IsReportOn : Sides → Asked → DiffEnd → List ℕ → Type 0
IsReportOn s asked end text =
    IsReportWith s.old.now.plan.now s.new.now.plan.now s.olds.now s.old.now.patience.ticks s.old.now.patience.events asked end text

-- the report on two plans: the services that both have, or the requested one
pub record IsReport (old new : Plan) (asked : Asked) (end : DiffEnd) (text : List ℕ) : Type 0 where
  pub found : is_found old new asked.compared ≡ true
  pub report : IsReportWith old new (old_services old new asked.compared) asked.ticks most_events asked end text

-- neither plan has the requested service
pub record IsLacking (old new : Plan) (asked : Asked) (end : DiffEnd) (text : List ℕ) : Type 0 where
  pub lacking : is_found old new asked.compared ≡ false
  pub text_is : text ≡ no_such_line asked.compared
  pub end_is : end ≡ Lacking

-- the text for two plans
abbrev pub IsPlansText : Plan → Plan → Asked → DiffEnd → List ℕ → Type 0
IsPlansText old new asked end text = IsReport old new asked end text ⊎ IsLacking old new asked end text

-- the text for a plan and a file: the file has a plan, or breaks a rule
abbrev pub IsNewText : Plan → List ℕ → Asked → DiffEnd → List ℕ → Type 0
IsNewText old new_file asked end text =
    ((new : Plan) × IsToldBy new_file new × IsPlansText old new asked end text)
    ⊎ ((end ≡ NewRefused) × IsRefusalText new_file text)

-- the text for two files
abbrev pub IsDiffText : List ℕ → List ℕ → Asked → DiffEnd → List ℕ → Type 0
IsDiffText old_file new_file asked end text =
    ((old : Plan) × IsToldBy old_file old × IsNewText old new_file asked end text)
    ⊎ ((end ≡ OldRefused) × IsRefusalText old_file text)
