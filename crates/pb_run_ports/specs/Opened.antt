-- The open files and sockets of the ports of a plan, and the order in which they are opened.
use Rattle.std.specs.Prelude.{◌≡◌, ℕ, Bool, true, false, Option, Some, None, List, [], ◌∷◌, ◌++◌, map, IfSome}
use Rattle.std.specs.List.{flat_map}
use Rattle.std.specs.declared.net.SocketAddr.{SocketAddr}
use Rattle.pb_run_ports.specs.Addresses.{Admits, IsExposure}
use Rattle.pb_run_ports.specs.Deeds.{HasBegun}
use Rattle.pb_run_ports.specs.Uses.{are_apart}
use Rattle.pb_run_ports.specs.declared.deed.Deed.{Deed}
use Rattle.pb_run_ports.specs.declared.deed.Deed.TheVariants.{Read, Connect, Listen, Bind, Write, Empty}
use Rattle.pb_run_ports.specs.declared.open_fault.OpenFault.{OpenFault}
use Rattle.pb_run_ports.specs.declared.open_fault.OpenFault.TheVariants.{Unopened, Unemptied, Shared, Exposed}
use Rattle.pb_run_ports.specs.declared.open_fault.OpenFault.TheVariants.{Memory as no_memory}
use Rattle.pb_run_ports.specs.declared.opened.Opened.{Opened}
use Rattle.pb_run_ports.specs.declared.opened.Opened.TheVariants.{Memory as in_memory, Capture as files, Record as output_alone}
use Rattle.pb_run_ports.specs.declared.opened.Opened.TheVariants.{Replay as input_alone, Socket as socket, Udp as bound}
use Rattle.pb_service.specs.declared.port_spec.PortSpec.{PortSpec}
use Rattle.pb_service.specs.declared.port_spec.LengthField.{LengthField}
use Rattle.pb_service.specs.declared.port_spec.Stamp.{Stamp}
use Rattle.pb_service.specs.declared.port_spec.Pace.{Pace}
use Rattle.pb_service.specs.declared.port_spec.PortSpec.TheVariants.{Memory, Capture, Record, Replay, Socket, Udp}

-- the part of a port that is the same before and after opening, each if it has such a thing: the frames that it lists,
-- the paths that it reads and writes, the pace at which the frames of the file that it reads enter, the time stamp of
-- the records that it writes, whether its socket stays, the octets of length before the frames of its stream, and the
-- address of the peer of its datagrams with their VXLAN network, if they have one
pub record Shown : Type 0 where
  pub frames : Option (List (List ℕ))
  pub read : Option (List ℕ)
  pub pace : Option Pace
  pub write : Option (List ℕ)
  pub stamp : Option Stamp
  pub stays : Option Bool
  pub framing : Option LengthField
  pub tunnel : Option (SocketAddr × Option ℕ)

abbrev pub nothing : Shown
nothing = record {
  frames = None;
  read = None;
  pace = None;
  write = None;
  stamp = None;
  stays = None;
  framing = None;
  tunnel = None;
}

-- this part of a port in the plan file
abbrev pub asked : PortSpec → Shown
asked (Memory frames) = record nothing { frames = Some frames }
asked (Capture read pace write stamp) =
    record nothing { read = Some read; pace = Some pace; write = Some write; stamp = Some stamp }
asked (Record write stamp) = record nothing { write = Some write; stamp = Some stamp }
asked (Replay read pace) = record nothing { read = Some read; pace = Some pace }
asked (Socket path listens stays framing) = record nothing { stays = Some stays; framing = Some framing }
asked (Udp local remote network) = record nothing { tunnel = Some (remote, network) }

-- this part of an opened port
abbrev pub shown : {I O S U : Type 0} → Opened I O S U → Shown
shown (in_memory frames) = record nothing { frames = Some frames }
shown (files input output read pace write stamp) =
    record nothing { read = Some read; pace = Some pace; write = Some write; stamp = Some stamp }
shown (output_alone output write stamp) = record nothing { write = Some write; stamp = Some stamp }
shown (input_alone input read pace) = record nothing { read = Some read; pace = Some pace }
shown (socket stream stays framing) = record nothing { stays = Some stays; framing = Some framing }
shown (bound held remote network) = record nothing { tunnel = Some (remote, network) }

-- the frames that enter at a port, if the plan file lists them
abbrev pub script_in : PortSpec → Option (List (List ℕ))
script_in spec = (asked spec).frames

-- the octets of the file that a port reads, if they are known
abbrev pub octets_in : (List ℕ → Option (List ℕ)) → PortSpec → Option (List ℕ)
octets_in holds (Capture read pace write stamp) = holds read
octets_in holds (Replay read pace) = holds read
octets_in holds other = None

-- the octets of its file that an opened port has not read yet, if they are known
abbrev pub octets_at : {I O S U : Type 0} → (I → Option (List ℕ)) → Opened I O S U → Option (List ℕ)
octets_at unread (files input output read pace write stamp) = unread input
octets_at unread (input_alone input read pace) = unread input
octets_at unread other = None

-- the first operations on a port: its file to read is opened, or its socket is made, connected to or bound
abbrev pub entering : PortSpec → List Deed
entering (Memory frames) = []
entering (Capture read pace write stamp) = Read read ∷ []
entering (Record write stamp) = []
entering (Replay read pace) = Read read ∷ []
entering (Socket path true stays framing) = Listen path ∷ []
entering (Socket path false stays framing) = Connect path ∷ []
entering (Udp local remote network) = Bind local ∷ []

-- a path, if there is one, is opened for writing
abbrev pub opening : Option (List ℕ) → List Deed
opening None = []
opening (Some path) = Write path ∷ []

-- a path, if there is one, is emptied
abbrev pub emptying : Option (List ℕ) → List Deed
emptying None = []
emptying (Some path) = Empty path ∷ []

-- the files to write are opened, in the order of the plan
abbrev pub written : List Shown → List Deed
written ports = flat_map (λ port. opening port.write) ports

-- the files to write are emptied, in the order of the plan
abbrev pub emptied : List Shown → List Deed
emptied ports = flat_map (λ port. emptying port.write) ports

-- all openings: files to read and sockets first, then files to write
abbrev pub openings_of : List PortSpec → List Deed
openings_of specs = flat_map entering specs ++ written (map asked specs)

-- all operations: when all are open, the files to write are emptied
abbrev pub deeds_of : List PortSpec → List Deed
deeds_of specs = openings_of specs ++ emptied (map asked specs)

-- the operations before a fault: no file was emptied if a path or an address could not be opened or an allocation
-- failed
abbrev pub HasStopped : OpenFault → Option (List Deed) → Option (List Deed) → List PortSpec → Type 0
HasStopped (Unopened fault) before after specs = HasBegun before after (openings_of specs)
HasStopped no_memory before after specs = HasBegun before after (openings_of specs)
HasStopped (Unemptied fault) before after specs = HasBegun before after (deeds_of specs)
HasStopped (Shared file) before after specs = ⊥
HasStopped (Exposed port) before after specs = ⊥

-- the operations before a fault, and whether a file has two uses: if so, nothing was opened. Nor was it if a port would
-- bind an address that is not loopback and the network is not allowed
abbrev pub StopsAt : OpenFault → Option (List ℕ → Option (List ℕ)) → List ℕ → Option (List Deed) → Option (List Deed) → List PortSpec → Type 0
StopsAt (Shared file) named plan_path before after specs = (after ≡ before) × IfSome named (λ name. are_apart name plan_path specs ≡ false)
StopsAt (Unopened fault) named plan_path before after specs = HasBegun before after (openings_of specs) × IfSome named (λ name. are_apart name plan_path specs ≡ true)
StopsAt (Unemptied fault) named plan_path before after specs = HasBegun before after (deeds_of specs) × IfSome named (λ name. are_apart name plan_path specs ≡ true)
StopsAt no_memory named plan_path before after specs = HasBegun before after (openings_of specs)
StopsAt (Exposed port) named plan_path before after specs = after ≡ before

-- a fault names a port that would bind an address that is not loopback, though the network is not allowed; or all ports
-- may be opened
abbrev pub StopsUnadmitted : OpenFault → Bool → List PortSpec → Type 0
StopsUnadmitted (Exposed port) allows_network specs = IsExposure allows_network specs (Exposed port)
StopsUnadmitted other allows_network specs = Admits allows_network specs
