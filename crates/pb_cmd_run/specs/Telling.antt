-- Texts about files and sockets that can't be used.
use Rattle.std.specs.Prelude.{ℕ, zero, suc, Option, List, [], ◌∷◌, ◌++◌, codes}
use Rattle.std.specs.Io.KnownBytes.{Appends, Keeps}
use Rattle.std.specs.Net.Text.{socket_text}
use Rattle.pb_lan.specs.declared.plan.CustomerPlan.{CustomerPlan}
use Rattle.pb_printable.specs.Printable.{printable}
use Rattle.pb_run_ports.specs.declared.open_fault.FileUser.{FileUser}
use Rattle.pb_run_ports.specs.declared.open_fault.FileUser.TheVariants.{Plan, Report, Reader, Writer}
use Rattle.pb_run_ports.specs.declared.open_fault.OpenFault.{OpenFault}
use Rattle.pb_run_ports.specs.declared.open_fault.OpenFault.TheVariants.{Unopened, Unemptied, Shared, Exposed, Memory}
use Rattle.pb_run_ports.specs.declared.open_fault.PathFault.{PathFault}
use Rattle.pb_run_ports.specs.declared.open_fault.Verb.{Verb}
use Rattle.pb_run_ports.specs.declared.open_fault.Verb.TheVariants.{Read, Write, Connect, Listen, Bind}

-- the name of the customer port at a place, from 0, or nothing
abbrev pub name_at : List CustomerPlan → ℕ → List ℕ
name_at [] place = []
name_at (customer ∷ customers) zero = customer.name
name_at (customer ∷ customers) (suc place) = name_at customers place

-- the name of the link of a tap, or nothing
abbrev pub link_of : List (List ℕ) → ℕ → List ℕ
link_of [] index = []
link_of (link ∷ links) zero = link
link_of (link ∷ links) (suc index) = link_of links index

-- the user of files at a place, from 0: a customer port, or a tap after these, by its link
abbrev pub user_at : List CustomerPlan → List (List ℕ) → ℕ → List ℕ
user_at [] taps place = codes "tap of link " ++ link_of taps place
user_at (customer ∷ customers) taps zero = codes "port " ++ customer.name
user_at (customer ∷ customers) taps (suc place) = user_at customers taps place

-- the word for the use that a port makes of a path or an address
abbrev pub word_of : Verb → List ℕ
word_of Read = codes "read"
word_of Write = codes "write"
word_of Connect = codes "connect"
word_of Listen = codes "listen"
word_of Bind = codes "bind"

-- the line with a user, the use that it makes of a path, and why it could not; control characters of the path are
-- escaped
abbrev pub path_line : List ℕ → List ℕ → List ℕ → List ℕ → List ℕ
path_line user word path why =
    user ++ codes ": " ++ word ++ codes " " ++ printable path ++ codes ": " ++ why ++ 10 ∷ []

-- the text about the other user of a file
abbrev pub sharing : List CustomerPlan → List (List ℕ) → FileUser → List ℕ
sharing customers taps (Writer place) = codes "also written by " ++ user_at customers taps place
sharing customers taps (Reader place) = codes "also read by " ++ user_at customers taps place
sharing customers taps Plan = codes "also the plan file"
sharing customers taps Report = codes "also standard output, to which the report goes"

-- the line about the path of a fault was written, with the error of the system
abbrev pub TellsPath : List CustomerPlan → List (List ℕ) → PathFault → Option (List ℕ) → Option (List ℕ) → Type 0
TellsPath customers taps fault before after =
    (why : List ℕ) × Appends before after
    (path_line (user_at customers taps fault.place) (word_of fault.verb) fault.path why)

-- the line about a fault was written, or nothing if an allocation had failed
abbrev pub TellsFault : List CustomerPlan → List (List ℕ) → OpenFault → Option (List ℕ) → Option (List ℕ) → Type 0
TellsFault customers taps (Unopened fault) before after = TellsPath customers taps fault before after
TellsFault customers taps (Unemptied fault) before after = TellsPath customers taps fault before after
TellsFault customers taps (Shared file) before after =
    Appends before after
    (path_line (user_at customers taps file.place) (codes "write") file.path (sharing customers taps file.other))
TellsFault customers taps (Exposed port) before after =
    Appends before after
    (path_line (user_at customers taps port.place) (codes "bind") (socket_text port.local)
    (codes "not a loopback address: --allow-network allows it"))
TellsFault customers taps Memory before after = Keeps before after
