use Rattle.std.proofs.Common.{◌≡◌, drop}
use Rattle.std.specs.List.{list_all}
use Rattle.pb_svlan.specs.ServiceTables.{is_known}
use Rattle.pb_svlan.proofs.services.Services.are_known.Given as goal

abbrev pub invariant-loop-number : goal.invariant-loop-number
invariant-loop-number l = list_all (is_known l.self) (drop l.number-index l.numbers) ≡ list_all (is_known l.self)
    l.numbers
