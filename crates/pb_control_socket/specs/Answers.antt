-- The effect of a line, and the reply to it.
use Rattle.std.specs.Prelude.{◌≡◌, ℕ, Bool, List, ◌++◌, Result, Ok, Err}
use Rattle.std.specs.List.{All}
use Rattle.std.specs.declared.option.Option.{Option}
use Rattle.pb_lan.specs.declared.plan.Plan.{Plan}
use Rattle.pb_names.specs.Names.{bridge_name}
use Rattle.pb_threads.specs.declared.view.PortView.{PortView}
use Rattle.pb_threads.specs.declared.view.StationView.{StationView}
use Rattle.pb_step_script.specs.Answers.{no_such_line}
use Rattle.pb_control_socket.specs.Requests.{Reads, changes}
use Rattle.pb_control_socket.specs.Texts.{ok_line, bad_line, help_text}
use Rattle.pb_control_socket.specs.Texts.{IsCountsText, IsTreeText, IsDropsText, IsStationsText}
use Rattle.pb_control_socket.specs.declared.request.Request.{Request}
use Rattle.pb_control_socket.specs.declared.request.Request.TheVariants.{Stop, Counts, Tree, Drops, Stations, Help}
use Rattle.pb_control_socket.specs.declared.request.Request.TheVariants.{Set, SetPart}
use Rattle.pb_control_socket.specs.declared.request.Refused.{Refused}
use Rattle.pb_control_socket.specs.declared.request.Refused.TheVariants.{NoSuch, Bad}

-- the board was asked for each change that the request makes
abbrev pub IsDone : Plan → (Request → Type 0) → Request → Type 0
IsDone plan was_asked request = All was_asked (changes plan request)

-- such lines, and `ok` after them
abbrev pub IsWithOk : (List ℕ → Type 0) → List ℕ → Type 0
IsWithOk AreTold text = (lines : List ℕ) × AreTold lines × (text ≡ lines ++ ok_line)

-- the whole reply to a request
abbrev pub IsReply : Plan → (told_port told_bridge : ℕ → ℕ × ℕ → Type 0) → (told_peer : ℕ → Option Bool → Type 0)
    → (told_views : ℕ → List (Option PortView) → Type 0) → (told_drops : ℕ → List ℕ → Type 0)
    → (told_stations : ℕ → Option (List StationView) → Type 0)
    → Request → List ℕ → Type 0
IsReply plan told_port told_bridge told_peer told_views told_drops told_stations Stop text = text ≡ ok_line
IsReply plan told_port told_bridge told_peer told_views told_drops told_stations Counts text =
    IsWithOk (IsCountsText plan told_port told_bridge told_peer) text
IsReply plan told_port told_bridge told_peer told_views told_drops told_stations Tree text =
    IsWithOk (IsTreeText plan told_views) text
IsReply plan told_port told_bridge told_peer told_views told_drops told_stations Drops text =
    IsWithOk (IsDropsText plan told_drops) text
IsReply plan told_port told_bridge told_peer told_views told_drops told_stations (Stations bridge) text =
    IsStationsText (bridge_name plan bridge) (told_stations bridge) text
IsReply plan told_port told_bridge told_peer told_views told_drops told_stations Help text =
    text ≡ help_text ++ ok_line
IsReply plan told_port told_bridge told_peer told_views told_drops told_stations (Set bridge port up) text =
    text ≡ ok_line
IsReply plan told_port told_bridge told_peer told_views told_drops told_stations (SetPart part up) text =
    text ≡ ok_line

-- the effect and the reply, by what was read of the line
abbrev pub Becomes : Plan → (Request → Type 0) → (told_port told_bridge : ℕ → ℕ × ℕ → Type 0) → (told_peer : ℕ → Option Bool → Type 0)
    → (told_views : ℕ → List (Option PortView) → Type 0) → (told_drops : ℕ → List ℕ → Type 0)
    → (told_stations : ℕ → Option (List StationView) → Type 0)
    → Result Request Refused → List ℕ → Type 0
Becomes plan was_asked told_port told_bridge told_peer told_views told_drops told_stations (Ok request) text =
    IsDone plan was_asked request × IsReply plan told_port told_bridge told_peer told_views told_drops told_stations request text
Becomes plan was_asked told_port told_bridge told_peer told_views told_drops told_stations (Err NoSuch) text = text ≡ no_such_line
Becomes plan was_asked told_port told_bridge told_peer told_views told_drops told_stations (Err Bad) text = text ≡ bad_line

-- the line was performed, and its reply was appended to the text
pub record HasAnswered (plan : Plan) (was_asked : Request → Type 0) (told_port told_bridge : ℕ → ℕ × ℕ → Type 0)
    (told_peer : ℕ → Option Bool → Type 0) (told_views : ℕ → List (Option PortView) → Type 0)
    (told_drops : ℕ → List ℕ → Type 0) (told_stations : ℕ → Option (List StationView) → Type 0)
    (line old new : List ℕ) : Type 0 where
  pub outcome : Result Request Refused
  pub reads : Reads plan line outcome
  pub text : List ℕ
  pub becomes : Becomes plan was_asked told_port told_bridge told_peer told_views told_drops told_stations outcome text
  pub new_is : new ≡ old ++ text
