-- The services of a bridge, and the roles of its ports in them.
use Rattle.std.specs.Prelude.{ℕ, zero, suc, Bool, true, false, List, [], ◌∷◌, Some, None, slice_get, insert, map, is_some, unwrap_or, nat_lt, ◌==◌, if◌then◌else◌}
use Rattle.std.specs.declared.option.Option.{Option}
use Rattle.std.specs.List.{filter, list_any, list_all}
use Rattle.std.specs.Option.{option_map}
use Rattle.pb_frame.specs.Admission.{same}
use Rattle.pb_frame.specs.Lists.{first}
use Rattle.pb_svlan.specs.declared.port.Attachment.{Attachment}
use Rattle.pb_svlan.specs.declared.port.PortKind.{PortKind}
use Rattle.pb_svlan.specs.declared.port.PortKind.TheVariants.{Customer, Trunk}

-- the services, each a VID with its name, in the order of their numbers, and the ports, ascending
pub record ServiceTable : Type 0 where
  pub services : List (ℕ × List ℕ)
  pub ports : List Attachment

-- the service with this number, counted from 1
abbrev pub numbered : ServiceTable → ℕ → Option (ℕ × List ℕ)
numbered table zero = None
numbered table (suc n) = slice_get table.services n

-- the VID of the service with this number
abbrev pub vid_of : ServiceTable → ℕ → Option ℕ
vid_of table number = option_map (λ s. s.0) (numbered table number)

abbrev pub is_known : ServiceTable → ℕ → Bool
is_known table number = is_some (vid_of table number)

-- a service has this name
abbrev pub has_name : ServiceTable → List ℕ → Bool
has_name table name = list_any (λ s. same s.1 name) table.services

abbrev pub has_vid : ServiceTable → ℕ → Bool
has_vid table vid = list_any (λ s. s.0 == vid) table.services

-- the role of the port, if it has one: a customer port of one service, or a port to other bridges
abbrev pub kind_in : List Attachment → ℕ → Option PortKind
kind_in ports port = option_map (λ a. a.kind) (first (λ a. a.port == port) ports)

abbrev pub kind_at : ServiceTable → ℕ → Option PortKind
kind_at table port = kind_in table.ports port

abbrev pub is_taken : ServiceTable → ℕ → Bool
is_taken table port = is_some (kind_at table port)

-- a port to other bridges carries the service with this VID: `None` is all services
abbrev pub carries : ServiceTable → ℕ → Option (List ℕ) → Bool
carries table vid None = has_vid table vid
carries table vid (Some vids) = list_any (λ v. v == vid) vids

-- a port with this role is a member of the service with this VID
abbrev pub is_member_as : ServiceTable → ℕ → PortKind → Bool
is_member_as table vid (Customer join) = join.vid == vid
is_member_as table vid (Trunk vids) = carries table vid vids

abbrev pub is_member : ServiceTable → ℕ → ℕ → Bool
is_member table port vid = unwrap_or (option_map (is_member_as table vid) (kind_at table port)) false

-- the ports that are members of the service, ascending
abbrev pub ports_of : ServiceTable → ℕ → List ℕ
ports_of table vid = map (λ a. a.port) (filter (λ a. is_member_as table vid a.kind) table.ports)

-- the priority of a customer port
abbrev pub pcp_as : PortKind → Option ℕ
pcp_as (Customer join) = Some join.pcp
pcp_as (Trunk vids) = None

abbrev pub pcp_in : Option PortKind → Option ℕ
pcp_in None = None
pcp_in (Some kind) = pcp_as kind

abbrev pub pcp_of : ServiceTable → ℕ → Option ℕ
pcp_of table port = pcp_in (kind_at table port)

-- the VID of a customer port's service
abbrev pub vid_as : PortKind → Option ℕ
vid_as (Customer join) = Some join.vid
vid_as (Trunk vids) = None

abbrev pub vid_in : Option PortKind → Option ℕ
vid_in None = None
vid_in (Some kind) = vid_as kind

abbrev pub vid_at : ServiceTable → ℕ → Option ℕ
vid_at table port = vid_in (kind_at table port)

-- the VIDs of the services with these numbers
abbrev pub vids_of : ServiceTable → List ℕ → List ℕ
vids_of table numbers = map (λ n. unwrap_or (vid_of table n) 0) numbers

-- the VIDs that a port to other bridges carries
abbrev pub carried : ServiceTable → Option (List ℕ) → Option (List ℕ)
carried table None = None
carried table (Some numbers) = Some (vids_of table numbers)

-- each of the numbers is that of a service
abbrev pub are_known : ServiceTable → Option (List ℕ) → Bool
are_known table None = true
are_known table (Some numbers) = list_all (is_known table) numbers

-- the index at which a port is inserted to keep the ports ascending
abbrev pub place_of : ℕ → List Attachment → ℕ
place_of port [] = 0
place_of port (a ∷ others) = if nat_lt a.port port then suc (place_of port others) else 0

-- the table with one more port
abbrev pub attached : ServiceTable → ℕ → PortKind → ServiceTable
attached table port kind = record table { ports = insert table.ports (place_of port table.ports) (record { port = port; kind = kind }) }
