-- The lines about what ports for datagrams dropped.
use Rattle.std.specs.Prelude.{ℕ, zero, suc, Option, Some, None, List, [], ◌∷◌, ◌++◌, codes}
use Rattle.std.specs.Fmt.{decimal}
use Rattle.pb_datagram.specs.Counts.{count_of}
use Rattle.pb_datagram.specs.declared.device.SystemError.{SystemError}
use Rattle.pb_datagram.specs.declared.drops.Refusals.{Refusals}
use Rattle.pb_datagram.specs.declared.refusal.Refusal.{Refusal}
use Rattle.pb_datagram.specs.declared.refusal.Refusal.TheVariants.{OtherSender, ShortHeader, UnsetFlag, OtherNetwork, ShortFrame}

-- the word for the reason of a refusal
abbrev pub refusal_word : Refusal → List ℕ
refusal_word OtherSender = codes "other-sender"
refusal_word ShortHeader = codes "short-header"
refusal_word UnsetFlag = codes "unset-flag"
refusal_word OtherNetwork = codes "other-network"
refusal_word ShortFrame = codes "short-frame"

-- the line about so many things of a port
abbrev pub count_line : List ℕ → ℕ → List ℕ → List ℕ → List ℕ
count_line name count what why =
    codes "port " ++ name ++ codes ": " ++ decimal count ++ codes " " ++ what ++ codes ": " ++ why ++ 10 ∷ []

-- the line about so many datagrams that a port refused for a reason, if there are any
abbrev pub refused_line : List ℕ → ℕ → Refusal → List ℕ
refused_line name zero reason = []
refused_line name (suc fewer) reason =
    count_line name (suc fewer) (codes "datagrams dropped") (refusal_word reason)

-- the lines about all datagrams that a port refused
abbrev pub refused_lines : List ℕ → Refusals → List ℕ
refused_lines name counts =
    refused_line name counts.other_sender OtherSender ++ refused_line name counts.short_header ShortHeader
    ++ refused_line name counts.unset_flag UnsetFlag ++ refused_line name counts.other_network OtherNetwork
    ++ refused_line name counts.short_frame ShortFrame

-- the line about failed calls of a port's socket, with the text of the newest error, if there is one
abbrev pub failed_line : List ℕ → ℕ → List ℕ → Option SystemError → List ℕ → List ℕ
failed_line name count what None why = []
failed_line name count what (Some error) why = count_line name count what why
