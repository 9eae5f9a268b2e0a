use Rattle.std.proofs.Common.{◌≡◌, true, ◌++◌, drop}
use Rattle.std.specs.List.{list_all}
use Rattle.pb_svlan.specs.ServiceTables.{is_known, vids_of}
use Rattle.pb_svlan.proofs.services.Services.vids_of.Given as goal

abbrev pub invariant-loop-number : goal.invariant-loop-number
invariant-loop-number l = record {
  known : list_all (is_known l.self) (drop l.number-index l.numbers) ≡ true;
  told : l.vids.items ++ vids_of l.self (drop l.number-index l.numbers) ≡ vids_of l.self l.numbers;
}
