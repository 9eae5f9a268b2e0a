-- The command: links, bridges and ports are disabled, the bridges converge, and the network is drawn.
use Rattle.std.specs.Prelude.{◌≡◌, ◌⊎◌, ℕ, Bool, true, false, List, [], Some, None, nat_lt}
use Rattle.std.specs.Borrow.{Bor}
use Rattle.std.specs.Io.KnownBytes.{Appends}
use Rattle.std.specs.declared.option.Option.{Option}
use Rattle.pb_converge.specs.Enough.{HasEnoughMemory}
use Rattle.pb_converge.specs.Falls.{HaveFallen, IsRefused, down_count, fresh}
use Rattle.pb_lan.specs.LastShapes.{last_shape}
use Rattle.pb_lan.specs.Records.{IsLawfulRecord}
use Rattle.pb_lan.specs.declared.plan.Plan.{Plan}
use Rattle.pb_lan.specs.declared.shape.Shape.{Shape}
use Rattle.pb_names.specs.Numbers.{service_named}
use Rattle.pb_net.specs.Answers.{NetView}
use Rattle.pb_relay.specs.Protocol.{spanning_tree}
use Rattle.pb_report.specs.PlanFiles.{IsToldBy}
use Rattle.pb_report.specs.Refusals.{PrintsRefusal}
use Rattle.pb_converge.specs.Drives.{EndsAs, ReachesLimit}
use Rattle.pb_converge.specs.declared.convergence.Convergence.{Convergence}
use Rattle.pb_cmd_draw.specs.Dot.{dot_text}
use Rattle.pb_draw_layout.specs.Scenes.{IsSceneOf}
use Rattle.pb_draw_layout.specs.declared.facts.Failures.{Failures}
use Rattle.pb_cmd_draw.specs.Failures.{failures_of}
use Rattle.pb_cmd_draw.specs.Svg.{svg_text}
use Rattle.pb_cmd_draw.specs.declared.asked.Asked.{Asked}
use Rattle.pb_cmd_draw.specs.declared.end.Format.{Format}
use Rattle.pb_cmd_draw.specs.declared.end.Format.TheVariants.{Svg, Dot}
use Rattle.pb_cmd_draw.specs.declared.end.DrawEnd.{DrawEnd}
use Rattle.pb_cmd_draw.specs.declared.end.DrawEnd.TheVariants.{Drawn, Refused, NoDown, NoService}
use Rattle.pb_draw_layout.specs.declared.scene.Scene.{Scene}

-- the plan has the service to highlight, if one is requested
abbrev pub is_found : Plan → Option (Bor (List ℕ)) → Bool
is_found plan None = true
is_found plan (Some name) = nat_lt 0 (service_named plan name.now)

-- the number of the service to highlight, if one is requested
abbrev pub chosen_of : Plan → Option (Bor (List ℕ)) → Option ℕ
chosen_of plan None = None
chosen_of plan (Some name) = Some (service_named plan name.now)

-- the picture of a scene in a format, with the lists of services at links or without
abbrev pub picture_text : Format → Plan → Bool → Scene → List ℕ
picture_text Svg plan lists scene = svg_text plan lists scene
picture_text Dot plan lists scene = dot_text plan lists scene

-- the picture of each part of the network, as it is in the shape and with these failures, with this service highlighted
-- or none, and with the lists of services of links or without
pub record IsPictureOf (plan : Plan) (shape : Shape) (chosen : Option ℕ) (failed : Failures) (lists : Bool) (format : Format) (text : List ℕ) : Type 0 where
  pub scene : Scene
  pub is_scene : IsSceneOf plan shape chosen failed scene
  pub text_is : text ≡ picture_text format plan lists scene

-- each bridge ticks at most so many times, and the picture has the states at the end, which are those of a lawful record
-- in which no allocation failed, and shows what the names disable as failed
pub record IsDrawingFrom (plan : Plan) (asked : Asked) (fallen : NetView) (convergence : Convergence) (text : List ℕ) : Type 0 where
  pub last : NetView
  pub ends : EndsAs asked.ticks 1000000000 convergence fallen last
  pub planned : last.plan ≡ plan
  pub lawful : IsLawfulRecord spanning_tree plan last.rec
  pub enough : HasEnoughMemory last.rec
  pub picture : IsPictureOf plan (last_shape plan last.rec) (chosen_of plan asked.service) (failures_of plan asked.downs.now) asked.lists asked.format text

-- what the names disable is disabled first
pub record IsDrawing (plan : Plan) (asked : Asked) (convergence : Convergence) (text : List ℕ) : Type 0 where
  pub found : is_found plan asked.service ≡ true
  pub fallen : NetView
  pub falls : HaveFallen plan asked.downs.now fallen
  pub drawing : IsDrawingFrom plan asked fallen convergence text

-- the picture; or nothing, if a name is refused or the plan lacks the service
abbrev pub HasDrawn : Plan → Asked → DrawEnd → List ℕ → Type 0
HasDrawn plan asked (Drawn convergence) text = IsDrawing plan asked convergence text
HasDrawn plan asked (NoDown fault) text = IsRefused plan asked.downs.now fault × (text ≡ [])
HasDrawn plan asked NoService text = (is_found plan asked.service ≡ false) × (text ≡ [])
HasDrawn plan asked Refused text = ⊥

-- what was written for the plan in the file
pub record HasWritten (file : List ℕ) (asked : Asked) (end : DrawEnd) (before after : Option (List ℕ)) : Type 0 where
  pub plan : Plan
  pub told : IsToldBy file plan
  pub text : List ℕ
  pub written : Appends before after text
  pub drawn : HasDrawn plan asked end text

-- what the command has written: the picture, or the rule that the file breaks
abbrev pub HasTold : List ℕ → Asked → DrawEnd → Option (List ℕ) → Option (List ℕ) → Type 0
HasTold file asked end before after = HasWritten file asked end before after ⊎ ((end ≡ Refused) × PrintsRefusal file before after)

-- The network of the plan in the file reaches the limit of steps of a place, or a billion events that carry on what is
-- on its way. Each bridge ticks at most as often as requested, no frame is polled, and only what the names disable is
-- disabled.
abbrev pub RunsIntoLimit : List ℕ → Asked → Type 0
RunsIntoLimit file asked =
    (plan : Plan) × IsToldBy file plan
    × ReachesLimit asked.ticks 0 (down_count plan asked.downs.now) 1000000000 (fresh plan)
