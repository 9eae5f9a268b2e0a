-- The reasons why the ports of a plan are not opened.
use Rattle.pb_run_ports.specs.declared.open_fault.OpenFault.{OpenFault}
use Rattle.pb_run_ports.specs.declared.open_fault.OpenFault.TheVariants.{Unopened, Unemptied, Shared, Exposed, Memory}

-- a path or an address can't be opened, or an allocation failed
abbrev pub IsUnopened : OpenFault → Type 0
IsUnopened (Unopened fault) = Unit {0}
IsUnopened Memory = Unit {0}
IsUnopened (Unemptied fault) = ⊥
IsUnopened (Shared file) = ⊥
IsUnopened (Exposed port) = ⊥

-- a file can't be emptied
abbrev pub IsUnemptied : OpenFault → Type 0
IsUnemptied (Unemptied fault) = Unit {0}
IsUnemptied (Unopened fault) = ⊥
IsUnemptied Memory = ⊥
IsUnemptied (Shared file) = ⊥
IsUnemptied (Exposed port) = ⊥
