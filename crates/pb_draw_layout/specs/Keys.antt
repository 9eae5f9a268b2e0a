-- The signs that a picture uses, and its legend explains.
use Rattle.std.specs.Prelude.{Bool, true, false, not, List, [], ◌∷◌, ◌&&◌, ◌||◌}
use Rattle.std.specs.List.{filter, list_any}
use Rattle.pb_lan.specs.declared.shape.PortState.{PortState}
use Rattle.pb_lan.specs.declared.shape.PortState.TheVariants.{Discarding, Learning, Forwarding}
use Rattle.pb_draw_layout.specs.declared.facts.LinkFacts.{LinkFacts}
use Rattle.pb_draw_layout.specs.declared.facts.LinkState.{LinkState}
use Rattle.pb_draw_layout.specs.declared.facts.LinkState.TheVariants.{Active, Standby, Failed}
use Rattle.pb_draw_layout.specs.declared.scene.BridgeMark.{BridgeMark}
use Rattle.pb_draw_layout.specs.declared.scene.Key.{Key}
use Rattle.pb_draw_layout.specs.declared.scene.Key.TheVariants.{Root, FailedBridge, ActiveLink, StandbyLink, FailedLink, DiscardingPort, LearningPort, CutOff}
use Rattle.pb_draw_layout.specs.declared.scene.LinkMark.{LinkMark}
use Rattle.pb_draw_layout.specs.declared.scene.PortMark.{PortMark}

-- all signs, in the order of the legend
abbrev pub all_keys : List Key
all_keys =
    Root ∷ FailedBridge ∷ ActiveLink ∷ StandbyLink ∷ FailedLink ∷ DiscardingPort ∷ LearningPort ∷ CutOff ∷ []

-- the link is active
abbrev pub is_active : LinkState → Bool
is_active Active = true
is_active Standby = false
is_active Failed = false

-- the link is on standby
abbrev pub is_standby : LinkState → Bool
is_standby Active = false
is_standby Standby = true
is_standby Failed = false

-- the link has failed
abbrev pub is_failed : LinkState → Bool
is_failed Active = false
is_failed Standby = false
is_failed Failed = true

-- the port is Discarding
abbrev pub is_discarding : PortState → Bool
is_discarding Discarding = true
is_discarding Learning = false
is_discarding Forwarding = false

-- the port is Learning
abbrev pub is_learning : PortState → Bool
is_learning Discarding = false
is_learning Learning = true
is_learning Forwarding = false

-- an end is Discarding, and not disabled
abbrev pub has_discarding : LinkFacts → Bool
has_discarding f = (is_discarding f.a && not f.failed.a) || (is_discarding f.b && not f.failed.b)

-- an end is Learning, and not disabled
abbrev pub has_learning : LinkFacts → Bool
has_learning f = (is_learning f.a && not f.failed.a) || (is_learning f.b && not f.failed.b)

-- a picture of these parts uses the sign
abbrev pub is_used : List BridgeMark → List LinkMark → List PortMark → Key → Bool
is_used bridges links ports Root = list_any (λ m. m.facts.is_root) bridges
is_used bridges links ports FailedBridge = list_any (λ m. m.facts.is_failed) bridges
is_used bridges links ports ActiveLink = list_any (λ m. is_active m.facts.state) links
is_used bridges links ports StandbyLink = list_any (λ m. is_standby m.facts.state) links
is_used bridges links ports FailedLink = list_any (λ m. is_failed m.facts.state) links
is_used bridges links ports DiscardingPort = list_any (λ m. has_discarding m.facts) links
is_used bridges links ports LearningPort = list_any (λ m. has_learning m.facts) links
is_used bridges links ports CutOff = list_any (λ m. m.facts.is_cut_off) ports

-- the signs that a picture of these parts uses
abbrev pub keys_of : List BridgeMark → List LinkMark → List PortMark → List Key
keys_of bridges links ports = filter (is_used bridges links ports) all_keys
