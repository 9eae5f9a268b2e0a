-- The words of hops.
use Rattle.std.specs.Prelude.{ℕ, Bool, List, [], ◌++◌, ◌+◌, ◌/◌, unwrap_or, codes, if◌then◌else◌}
use Rattle.std.specs.Fmt.{decimal}
use Rattle.std.specs.Option.{option_map}
use Rattle.pb_lan.specs.Events.{ends_at}
use Rattle.pb_lan.specs.Numbering.{numbered}
use Rattle.pb_lan.specs.declared.plan.Plan.{Plan}
use Rattle.pb_lan.specs.declared.step.NoRoom.{NoRoom}
use Rattle.pb_lan.specs.declared.step.NoRoom.TheVariants.{Full, Memory}
use Rattle.pb_messages.specs.Reasons.{reason_word}
use Rattle.pb_names.specs.Names.{bridge_name}
use Rattle.pb_trace_svg.specs.declared.hops.Cause.{Cause}
use Rattle.pb_trace_svg.specs.declared.hops.Cause.TheVariants.{Filtered, NoPort}
use Rattle.pb_trace_svg.specs.declared.hops.Hop.{Hop}
use Rattle.pb_trace_svg.specs.declared.hops.Hop.TheVariants.{Entered, Crossed, Dropped, Refused, Delivered}
use Rattle.pb_trace_svg.specs.declared.hops.Tag.{Tag}
use Rattle.pb_trace_svg.specs.declared.hops.Tag.TheVariants.{Service, Untagged}

-- the link of a lane
abbrev pub link_of : ℕ → ℕ
link_of lane = (lane + 1) / 2

-- the name of the bridge to which a lane leads
abbrev pub far_name : Plan → ℕ → List ℕ
far_name plan lane = unwrap_or (option_map (λ link. bridge_name plan (ends_at lane link).bridge) (numbered plan.links (link_of lane))) []

-- the word for a kind of hop
abbrev pub kind_word : Hop → List ℕ
kind_word (Entered port) = codes "in"
kind_word (Crossed lane tag lost) = if lost then codes "lost" else codes "taken"
kind_word (Dropped bridge port cause) = codes "dropped"
kind_word (Refused bridge port cause) = codes "dropped"
kind_word (Delivered port gone) = if gone then codes "gone" else codes "out"

-- a tag
abbrev pub tag_words : Tag → List ℕ
tag_words (Service vid pcp) = codes "VID " ++ decimal vid ++ codes " PCP " ++ decimal pcp
tag_words Untagged = codes "untagged"

-- why a bridge dropped a frame
abbrev pub cause_word : Cause → List ℕ
cause_word (Filtered reason) = reason_word reason
cause_word NoPort = codes "no-port"

-- why a port got no copy
abbrev pub room_word : NoRoom → List ℕ
room_word Full = codes "full"
room_word Memory = codes "memory"

-- what follows the tag of a frame that a link lost
abbrev pub lost_word : Bool → List ℕ
lost_word lost = if lost then codes ", lost" else []

-- the words for a dropped frame, with the reason
abbrev pub dropped_words : List ℕ → List ℕ
dropped_words reason = codes "dropped: " ++ reason

-- a frame left the network, or the customer did not take it
abbrev pub gone_word : Bool → List ℕ
gone_word gone = if gone then codes "out, not taken" else codes "out"

-- the words of a hop
abbrev pub hop_words : Plan → Hop → List ℕ
hop_words plan (Entered port) = codes "in"
hop_words plan (Crossed lane tag lost) = codes "to " ++ far_name plan lane ++ codes ": " ++ tag_words tag ++ lost_word lost
hop_words plan (Dropped bridge port cause) = dropped_words (cause_word cause)
hop_words plan (Refused bridge port cause) = dropped_words (room_word cause)
hop_words plan (Delivered port gone) = gone_word gone
