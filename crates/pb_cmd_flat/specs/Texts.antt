-- The printed lines.
use Rattle.std.specs.Prelude.{ℕ, List, [], ◌∷◌, ◌++◌, flat_map, codes}
use Rattle.std.specs.Fmt.{decimal}
use Rattle.pb_frame.specs.Hex.{hex_text}
use Rattle.pb_frame.specs.Tags.{bare}
use Rattle.pb_lan.specs.declared.step.Outcome.{Outcome}
use Rattle.pb_lan.specs.declared.step.Outcome.TheVariants.{Relayed, Filtered, Heard}
use Rattle.pb_frame.specs.declared.reason.Reason.{Reason}
use Rattle.pb_messages.specs.Reasons.{reason_word}
use Rattle.pb_cmd_flat.specs.Receipts.{Receipt}

-- the line of a frame, in hexadecimal, that left at a port
abbrev pub out_line : List ℕ → ℕ → List ℕ
out_line hex port = codes "out " ++ decimal port ++ codes " " ++ hex ++ 10 ∷ []

-- the lines of a frame that left at each of the ports, in their order
abbrev pub out_lines : List ℕ → List ℕ → List ℕ
out_lines hex ports = flat_map (out_line hex) ports

-- the line of a frame that was filtered
abbrev pub filtered_line : ℕ → Reason → List ℕ
filtered_line port reason = codes "filtered " ++ decimal port ++ codes " " ++ reason_word reason ++ 10 ∷ []

-- the lines for an outcome
abbrev pub outcome_text : ℕ → List ℕ → Outcome → List ℕ
outcome_text port wire (Relayed chosen refused) = out_lines (hex_text (bare wire)) chosen
outcome_text port wire (Filtered reason) = filtered_line port reason
outcome_text port wire Heard = []

-- the lines for a frame that a port received
abbrev pub answer_text : Receipt → List ℕ
answer_text r = outcome_text r.port r.wire r.outcome
