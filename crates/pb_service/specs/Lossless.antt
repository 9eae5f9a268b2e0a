-- Whether a run loses no frame because a queue is full.
use Rattle.std.specs.Prelude.{Bool, true, false, not, List, Some, None}
use Rattle.std.specs.declared.option.Option.{Option}
use Rattle.std.specs.List.{list_any}
use Rattle.pb_service.specs.declared.port_spec.PortSpec.{PortSpec}
use Rattle.pb_service.specs.declared.port_spec.PortSpec.TheVariants.{Memory, Capture, Record, Replay, Socket, Udp}

-- the port is a stream socket or sends datagrams
abbrev pub is_socket : PortSpec → Bool
is_socket (Memory frames) = false
is_socket (Capture read pace write stamp) = false
is_socket (Record write stamp) = false
is_socket (Replay read pace) = false
is_socket (Socket path listens stays framing) = true
is_socket (Udp local remote network) = true

-- the key says it, or leaves it open and no port is a socket
abbrev pub is_lossless : Option Bool → List PortSpec → Bool
is_lossless (Some told) specs = told
is_lossless None specs = not (list_any is_socket specs)
