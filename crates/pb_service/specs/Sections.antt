-- The tables of a plan file, and the paths of their keys.
use Rattle.std.specs.Prelude.{ℕ, List, codes, ◌++◌}
use Rattle.std.specs.Fmt.{decimal}
use Rattle.pb_service.specs.declared.section.Section.{Section}
use Rattle.pb_service.specs.declared.section.Section.TheVariants.{Bridge, Link, Service, Port, Event, Tap}
use Rattle.pb_service.specs.declared.section.KeyTable.{KeyTable}
use Rattle.pb_service.specs.declared.section.KeyTable.TheVariants.{Top, Network, Row}

-- the key of an array of tables
abbrev pub word_of : Section → List ℕ
word_of Bridge = codes "bridge"
word_of Link = codes "link"
word_of Service = codes "service"
word_of Port = codes "port"
word_of Event = codes "event"
word_of Tap = codes "tap"

-- the maximum number of tables in an array
abbrev pub most_of : Section → ℕ
most_of Bridge = 32
most_of Link = 64
most_of Service = 64
most_of Port = 128
most_of Event = 128
most_of Tap = 128

-- the path of a key, as it is printed
abbrev pub path_at : KeyTable → List ℕ → List ℕ
path_at Top key = key
path_at Network key = codes "network." ++ key
path_at (Row section index) key = word_of section ++ codes "[" ++ decimal index ++ codes "]." ++ key
