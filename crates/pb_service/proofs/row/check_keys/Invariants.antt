use Rattle.std.proofs.Common.{drop}
use Rattle.std.specs.List.{AllByRecursion}
use Rattle.toml.specs.Data.{get_member}
use Rattle.toml.specs.View.{table_view}
use Rattle.pb_service.specs.Keys.{IsTaken, rules_of}
use Rattle.pb_service.proofs.row.check_keys.Given as goal

abbrev pub invariant-loop-key : goal.invariant-loop-key
invariant-loop-key l = AllByRecursion (λ k. IsTaken k (get_member k.name (table_view l.row)))
    (rules_of (drop l.key-index l.keys)) → AllByRecursion (λ k. IsTaken k (get_member k.name (table_view l.row)))
    (rules_of l.keys)
