-- The lines for frames that bridges dropped.
use Rattle.std.specs.Prelude.{ℕ, ◌+◌, ◌==◌, ◌||◌, if◌then◌else◌, Bool, true, false, List, [], ◌∷◌, ◌++◌, Some, flat_map, codes}
use Rattle.std.specs.Fmt.{decimal}
use Rattle.std.specs.List.{count_by, list_any, range_with_len}
use Rattle.pb_frame.specs.declared.reason.Reason.{Reason}
use Rattle.pb_frame.specs.declared.reason.Reason.TheVariants.{NotForwarding, NotMember, Untagged, Reserved, Malformed, Worn, Memory, STagged, Long}
use Rattle.pb_lan.specs.Ports.{is_end_at}
use Rattle.pb_lan.specs.declared.plan.BridgePlan.{BridgePlan}
use Rattle.pb_lan.specs.declared.plan.Plan.{Plan}
use Rattle.pb_lan.specs.declared.record.Record.{Record}
use Rattle.pb_lan.specs.declared.step.Step.{Step}
use Rattle.pb_messages.specs.Reasons.{drop_word}
use Rattle.pb_history.specs.Drops.{is_dropped, goes_nowhere, number_of}
use Rattle.pb_history.specs.Late.{changes_late}
use Rattle.pb_run_losses.specs.Losses.{place_words}

-- the bridge's local port leads to another bridge
abbrev pub is_between : Plan → ℕ → ℕ → Bool
is_between plan bridge port = list_any (λ link. is_end_at bridge port link.a || is_end_at bridge port link.b) plan.links

-- a port changed its state after its bridge had received a customer's frame
abbrev pub changes_under_way : Record → Bool
changes_under_way rec = list_any changes_late rec.bridges

-- a frame that is dropped for the reason is lost, by whether the port leads to another bridge, and whether states of
-- ports changed while frames were under way
abbrev pub is_lost : Bool → Bool → Reason → Bool
is_lost between late NotForwarding = late
is_lost between late NotMember = between
is_lost between late Untagged = between
is_lost between late (Reserved octet) = false
is_lost between late Malformed = between
is_lost between late Worn = between
is_lost between late Memory = true
is_lost between late STagged = false
is_lost between late Long = between

-- the reasons in the order of their lines
abbrev pub reasons : List Reason
reasons = NotForwarding ∷ NotMember ∷ Untagged ∷ Reserved 0 ∷ Malformed ∷ Worn ∷ Memory ∷ STagged ∷ Long ∷ []

-- the line of a count of frames that were dropped for a reason, or nothing if the count is 0
abbrev pub drop_line : List ℕ → ℕ → ℕ → List ℕ → List ℕ
drop_line name port count reason =
    if count == 0 then []
    else place_words name (Some port) ++ codes ": " ++ decimal count ++ codes " frames dropped: " ++ reason ++ 10 ∷ []

-- a line, if it is in the report of losses and that report is wanted, or in neither case
abbrev pub shown : Bool → Bool → List ℕ → List ℕ
shown true true line = line
shown false false line = line
shown _ _ line = []

-- the line of a port for a reason
abbrev pub reason_line : List ℕ → ℕ → List Step → Bool → Bool → Bool → Reason → List ℕ
reason_line name port steps between late lost reason =
    shown (is_lost between late reason) lost (drop_line name port (count_by (is_dropped port reason) steps) (drop_word (number_of reason)))

-- the lines of a port: one for each reason, then one for frames that were relayed to no port
abbrev pub port_drops : List ℕ → ℕ → List Step → Bool → Bool → Bool → List ℕ
port_drops name port steps between late lost =
    flat_map (reason_line name port steps between late lost) reasons
    ++ shown late lost (drop_line name port (count_by (goes_nowhere port) steps) (drop_word 9))

-- the lines of the bridge of this number: those of its ports 1 to 16
abbrev pub bridge_drops : Plan → Bool → Bool → ℕ → List ℕ → List Step → List ℕ
bridge_drops plan late lost number name steps =
    flat_map (λ port. port_drops name port steps (is_between plan number port) late lost) (range_with_len 1 16)

-- the lines of these bridges, the first of which has this number
abbrev pub drops_from : Plan → Bool → Bool → ℕ → List BridgePlan → List (List Step) → List ℕ
drops_from plan late lost number (bridge ∷ bridges) (steps ∷ lists) =
    bridge_drops plan late lost number bridge.name steps ++ drops_from plan late lost (number + 1) bridges lists
drops_from plan late lost number _ _ = []

-- the lines for dropped frames that are lost, or for those that are not
abbrev pub drops_text : Plan → Record → Bool → List ℕ
drops_text plan rec lost = drops_from plan (changes_under_way rec) lost 1 plan.bridges rec.bridges
