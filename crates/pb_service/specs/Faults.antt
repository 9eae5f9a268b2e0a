-- The numbers of faults.
use Rattle.std.specs.Prelude.{ℕ}
use Rattle.pb_service.specs.declared.fault.PlanFault.{PlanFault}
use Rattle.pb_service.specs.declared.fault.PlanFault.TheVariants.{Utf8, Toml, Missing, Kind, Range, Unknown, Twice, NoSuch, LinkEnd, TooMany, Memory}

abbrev pub number_of : PlanFault → ℕ
number_of Utf8 = 1
number_of Toml = 2
number_of (Missing key) = 3
number_of (Kind key) = 4
number_of (Range key) = 5
number_of (Unknown key) = 6
number_of (Twice name) = 7
number_of (NoSuch name) = 8
number_of LinkEnd = 9
number_of TooMany = 10
number_of Memory = 11
