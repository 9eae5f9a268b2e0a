-- The faults of ports, and the numbers that name them in reports.
use Rattle.std.specs.Prelude.{ℕ, ⊤}
use Rattle.pb_port.specs.declared.fault.PortFault.{PortFault}
use Rattle.pb_port.specs.declared.fault.PortFault.TheVariants.{Magic, Version, LinkType, Truncated, Oversize, Read, Write, Memory}

-- the number of a fault in the public format of reports
abbrev pub fault_number : PortFault → ℕ
fault_number Magic = 1
fault_number Version = 2
fault_number LinkType = 3
fault_number Truncated = 4
fault_number Oversize = 5
fault_number Read = 6
fault_number Write = 7
fault_number Memory = 8

-- a fault of the octets of an input, without a failed call or a failed allocation
abbrev pub IsOfOctets : PortFault → Type 0
IsOfOctets Read = ⊥
IsOfOctets Write = ⊥
IsOfOctets Memory = ⊥
IsOfOctets fault = ⊤
