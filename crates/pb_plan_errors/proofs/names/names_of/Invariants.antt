use Rattle.std.proofs.Common.{◌≡◌, ◌++◌, drop, map}
use Rattle.toml.specs.View.{items_view}
use Rattle.pb_service.specs.Told.{names_in, tables_in}
use Rattle.pb_plan_errors.proofs.names.names_of.Given as goal

-- the names so far and those of the items that are left are all names
abbrev pub invariant-loop-item : goal.invariant-loop-item
invariant-loop-item l =
    map (λ n. n.now) l.names.items ++ names_in (tables_in (items_view (drop l.item-index l.items)))
    ≡ names_in (tables_in (items_view l.items))
