-- The faults of ports in words.
use Rattle.std.specs.Prelude.{ℕ, ◌+◌, ◌==◌, Bool, true, false, List, [], ◌∷◌, ◌++◌, codes}
use Rattle.std.specs.List.{list_any}
use Rattle.pb_cmd_run.specs.declared.completing.CaptureFiles.{CaptureFiles}
use Rattle.pb_lan.specs.declared.plan.CustomerPlan.{CustomerPlan}
use Rattle.pb_port.specs.declared.fault.PortFault.{PortFault}
use Rattle.pb_port.specs.declared.fault.PortFault.TheVariants.{Magic, Version, LinkType, Truncated, Oversize, Read, Write, Memory}
use Rattle.pb_workers.specs.declared.access.Last.{Last}
use Rattle.pb_workers.specs.declared.access.Last.TheVariants.{More, End, Fault}

-- the words for a fault of a port, over captures or over a socket
abbrev pub words_of : Bool → PortFault → List ℕ
words_of is_capture Magic = codes "not a capture"
words_of is_capture Version = codes "capture version is not 2.4"
words_of is_capture LinkType = codes "link type of the capture is not Ethernet"
words_of is_capture Truncated = codes "input ends within a header, record or frame"
words_of true Oversize = codes "record of more than 262,144 octets"
words_of false Oversize = codes "length above 65,535: does the peer write the octets of length that `framing` says?"
words_of is_capture Read = codes "read failed"
words_of is_capture Write = codes "write failed"
words_of is_capture Memory = codes "an allocation failed"

-- the line with a port's name and its fault
abbrev pub words_line : List ℕ → Bool → PortFault → List ℕ
words_line name is_capture fault = codes "port " ++ name ++ codes ": " ++ words_of is_capture fault ++ 10 ∷ []

-- the line for the newest poll of a port, if that was a fault
abbrev pub words_at : List ℕ → Bool → Last → List ℕ
words_at name is_capture (Fault fault) = words_line name is_capture fault
words_at name is_capture More = []
words_at name is_capture End = []

-- the port at a place of the plan, from 0, has capture files
abbrev pub is_capture : List CaptureFiles → ℕ → Bool
is_capture files place = list_any (λ f. f.place == place) files

-- a line for each customer port whose newest poll was a fault, in the order of the plan from a place on
abbrev pub words_lines : List CaptureFiles → ℕ → List CustomerPlan → List Last → List ℕ
words_lines files place (customer ∷ customers) (last ∷ lasts) =
    words_at customer.name (is_capture files place) last ++ words_lines files (place + 1) customers lasts
words_lines files place _ _ = []
