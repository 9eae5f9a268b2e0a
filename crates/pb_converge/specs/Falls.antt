-- The ends of links that names disable.
use Rattle.std.specs.Prelude.{◌≡◌, ◌||◌, ℕ, Bool, true, false, List, ◌++◌, Some, None, Option, length, map, slice_get, string_bytes, codes, if◌then◌else◌}
use Rattle.std.specs.Fmt.{decimal}
use Rattle.std.specs.Global.{Global}
use Rattle.std.specs.List.{AllByRecursion, filter, flat_map, list_any}
use Rattle.std.specs.declared.string.String.{String}
use Rattle.pb_frame.specs.Admission.{same}
use Rattle.pb_lan.specs.Events.{empty_record}
use Rattle.pb_lan.specs.Ports.{ends_of}
use Rattle.pb_lan.specs.declared.event.Event.{Event}
use Rattle.pb_lan.specs.declared.event.Event.TheVariants.{Admin}
use Rattle.pb_lan.specs.declared.plan.Plan.{Plan}
use Rattle.pb_lan.specs.declared.plan.End.{End}
use Rattle.pb_lan.specs.declared.plan.LinkPlan.{LinkPlan}
use Rattle.pb_names.specs.Names.{bridge_name}
use Rattle.pb_net.specs.Answers.{NetView}
use Rattle.pb_converge.specs.Drives.{HaveDone}
use Rattle.pb_converge.specs.declared.falling.DownFault.{DownFault}
use Rattle.pb_converge.specs.declared.falling.DownFault.TheVariants.{Unknown, Ambiguous}

-- the name BRIDGE:PORT of an end of a link
abbrev pub end_name : Plan → End → List ℕ
end_name plan e = bridge_name plan e.bridge ++ codes ":" ++ decimal e.port

-- the text is the name of the bridge at this end
abbrev pub is_at : Plan → List ℕ → End → Bool
is_at plan name e = same name (bridge_name plan e.bridge)

-- the text is the name of the link, or of a bridge at one of its ends
abbrev pub fails : Plan → List ℕ → LinkPlan → Bool
fails plan name link = same name link.name || (is_at plan name link.a || is_at plan name link.b)

-- The ends of a link that a name disables: both ends if it is the name of the link, or of a bridge at one of them;
-- otherwise the end whose BRIDGE:PORT it is.
abbrev pub ends_down : Plan → List ℕ → LinkPlan → List End
ends_down plan name link =
    if fails plan name link then ends_of link else filter (λ e. same name (end_name plan e)) (ends_of link)

-- those of all links
abbrev pub all_down : Plan → List ℕ → List End
all_down plan name = flat_map (ends_down plan name) plan.links

-- the event that disables an end
abbrev pub set_down : End → Event
set_down e = Admin e.bridge e.port false

-- the events that disable what the names disable, in order
abbrev pub downs : Plan → List (String Global) → List Event
downs plan names = flat_map (λ w. map set_down (all_down plan (string_bytes w))) names

-- how many of them there are
abbrev pub down_count : Plan → List (String Global) → ℕ
down_count plan names = length (downs plan names)

-- the text is BRIDGE:PORT for an end of this link
abbrev pub has_port : Plan → List ℕ → LinkPlan → Bool
has_port plan name link = same name (end_name plan link.a) || same name (end_name plan link.b)

-- the text is the name of a link, of a bridge, of an end of a link
abbrev pub is_link : Plan → List ℕ → Bool
is_link plan name = list_any (λ l. same name l.name) plan.links

abbrev pub is_bridge : Plan → List ℕ → Bool
is_bridge plan name = list_any (λ b. same name b.name) plan.bridges

abbrev pub is_port : Plan → List ℕ → Bool
is_port plan name = list_any (has_port plan name) plan.links

-- the text is the name of one link, one bridge or one end of a link
pub record IsClear (plan : Plan) (name : List ℕ) : Type 0 where
  pub known : (is_link plan name || (is_bridge plan name || is_port plan name)) ≡ true
  pub single : is_link plan name ≡ true → is_bridge plan name ≡ true → ⊥

-- the text names nothing; or both a link and a bridge; or one thing
abbrev pub Judges : Plan → List ℕ → ℕ → Option DownFault → Type 0
Judges plan name index None = IsClear plan name
Judges plan name index (Some (Unknown at)) =
    (at ≡ index) × (is_link plan name ≡ false) × (is_bridge plan name ≡ false) × (is_port plan name ≡ false)
Judges plan name index (Some (Ambiguous at)) =
    (at ≡ index) × (is_link plan name ≡ true) × (is_bridge plan name ≡ true)

-- a network that has taken no step, and keeps its steps or only counts them
abbrev pub fresh_by : Bool → Plan → NetView
fresh_by is_kept plan = record { plan = plan; rec = empty_record plan; is_kept = is_kept }

-- a network that has taken no step, and only counts its steps
abbrev pub fresh : Plan → NetView
fresh plan = fresh_by false plan

-- each text is a name, and what it names was disabled
pub record HaveFallen (plan : Plan) (names : List (String Global)) (net : NetView) : Type 0 where
  pub clear : AllByRecursion (λ w. IsClear plan (string_bytes w)) names
  pub done : HaveDone (fresh_by net.is_kept plan) (downs plan names) net

-- a name is refused for this reason
pub record IsRefused (plan : Plan) (names : List (String Global)) (fault : DownFault) : Type 0 where
  pub index : ℕ
  pub w : String Global
  pub there : slice_get names index ≡ Some w
  pub reason : Judges plan (string_bytes w) index (Some fault)

-- what the names disable was disabled; or one of them is refused
abbrev pub AnswersFalls : Plan → List (String Global) → Option DownFault → NetView → Type 0
AnswersFalls plan names None net = HaveFallen plan names net
AnswersFalls plan names (Some fault) net = IsRefused plan names fault
