-- Files with two uses.
use Rattle.std.specs.Prelude.{ℕ, ◌+◌, Bool, true, false, not, ◌||◌, ◌&&◌, Option, Some, None, List, [], ◌∷◌, ◌++◌, nat_eq, codes}
use Rattle.std.specs.List.{list_any}
use Rattle.std.specs.Cmp.Lexicographic.{pointwise}
use Rattle.pb_run_ports.specs.declared.open_fault.FileUser.{FileUser}
use Rattle.pb_run_ports.specs.declared.open_fault.FileUser.TheVariants.{Plan, Report, Reader, Writer}
use Rattle.pb_run_ports.specs.declared.uses.FileUse.{FileUse}
use Rattle.pb_service.specs.declared.port_spec.PortSpec.{PortSpec}
use Rattle.pb_service.specs.declared.port_spec.PortSpec.TheVariants.{Memory, Capture, Record, Replay, Socket, Udp}

-- the user of a file is a port that writes it
abbrev pub writes : FileUser → Bool
writes (Writer place) = true
writes (Reader place) = false
writes Plan = false
writes Report = false

-- two uses are of one file, and one of them writes it
abbrev pub clashes : FileUse → FileUse → Bool
clashes earlier later = (writes earlier.user || writes later.user) && pointwise nat_eq earlier.file later.file

-- no use conflicts with a later one
abbrev pub is_apart : List FileUse → Bool
is_apart [] = true
is_apart (first ∷ uses) = not (list_any (clashes first) uses) && is_apart uses

-- the use of a file, or none if the file may have several
abbrev pub use_of : FileUser → Option (List ℕ) → List FileUse
use_of user None = []
use_of user (Some file) = record { file = file; user = user } ∷ []

-- the uses that a port makes of files
abbrev pub uses_at : (List ℕ → Option (List ℕ)) → ℕ → PortSpec → List FileUse
uses_at name place (Memory frames) = []
uses_at name place (Capture read pace write stamp) =
    use_of (Reader place) (name read) ++ use_of (Writer place) (name write)
uses_at name place (Record write stamp) = use_of (Writer place) (name write)
uses_at name place (Replay read pace) = use_of (Reader place) (name read)
uses_at name place (Socket path listens stays framing) = []
uses_at name place (Udp local remote network) = []

-- the uses that ports make of files, from a place of the plan on
abbrev pub uses_in : (List ℕ → Option (List ℕ)) → ℕ → List PortSpec → List FileUse
uses_in name place [] = []
uses_in name place (spec ∷ specs) = uses_at name place spec ++ uses_in name (place + 1) specs

-- no port writes a file that another port uses, that it reads itself, from which the plan was read, or that is standard
-- output, to which the report goes
abbrev pub are_apart : (List ℕ → Option (List ℕ)) → List ℕ → List PortSpec → Bool
are_apart name plan_path specs =
    is_apart (use_of Plan (name plan_path) ++ use_of Report (name (codes "/dev/stdout")) ++ uses_in name 0 specs)
