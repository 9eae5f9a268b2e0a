-- The signs in the legend of an SVG picture.
use Rattle.std.specs.Prelude.{ℕ, List, ◌++◌, codes}
use Rattle.pb_cmd_draw.specs.SvgBoxes.{place_text}
use Rattle.pb_draw_layout.specs.declared.scene.Key.{Key}
use Rattle.pb_draw_layout.specs.declared.scene.Key.TheVariants.{Root, FailedBridge, ActiveLink, StandbyLink, FailedLink, DiscardingPort, LearningPort, CutOff}
use Rattle.pb_draw_layout.specs.declared.scene.KeyMark.{KeyMark}

-- the word for a sign
abbrev pub key_word : Key → List ℕ
key_word Root = codes "root"
key_word FailedBridge = codes "failed-bridge"
key_word ActiveLink = codes "active"
key_word StandbyLink = codes "standby"
key_word FailedLink = codes "failed"
key_word DiscardingPort = codes "discarding"
key_word LearningPort = codes "learning"
key_word CutOff = codes "cut-off"

-- the drawing of a sign
abbrev pub sign_of : Key → List ℕ
sign_of Root = codes "<rect class=\"root\" y=\"-10\" width=\"22\" height=\"12\" rx=\"3\"/>"
sign_of FailedBridge = codes "<rect class=\"failed\" y=\"-10\" width=\"22\" height=\"12\" rx=\"3\"/><path class=\"failed\" d=\"M0-10l22 12m0-12l-22 12\"/>"
sign_of ActiveLink = codes "<path class=\"active\" d=\"M0-4h22\"/>"
sign_of StandbyLink = codes "<path class=\"standby\" d=\"M0-4h22\"/>"
sign_of FailedLink = codes "<path class=\"failed\" d=\"M0-4h22\"/><path class=\"disabled\" d=\"M4-11l14 14m0-14l-14 14\"/>"
sign_of DiscardingPort = codes "<path class=\"discarding\" d=\"M6-9h10v10h-10zm2 2l6 6m0-6l-6 6\"/>"
sign_of LearningPort = codes "<path class=\"learning\" d=\"M6-4a5 5 0 1 0 10 0a5 5 0 1 0-10 0z\"/>"
sign_of CutOff = codes "<path class=\"cut\" d=\"M5-10l12 12m0-12l-12 12\"/>"

-- its explanation
abbrev pub label_of : Key → List ℕ
label_of Root = codes "root bridge"
label_of FailedBridge = codes "failed bridge"
label_of ActiveLink = codes "active link"
label_of StandbyLink = codes "standby link"
label_of FailedLink = codes "failed link"
label_of DiscardingPort = codes "discarding port"
label_of LearningPort = codes "learning port"
label_of CutOff = codes "cut-off site"

-- the opening tag of a sign's group, without its position
abbrev pub key_group : Key → List ℕ
key_group key = codes "<g class=\"key\" data-key=\"" ++ key_word key ++ codes "\" "

-- a sign and its explanation
abbrev pub key_label : Key → List ℕ
key_label key = sign_of key ++ codes "<text x=\"30\">" ++ label_of key ++ codes "</text></g>\n"

-- the line of a sign in the legend
unfoldable pub key_element : KeyMark → List ℕ
key_element mark = key_group mark.key ++ place_text mark.corner ++ key_label mark.key
