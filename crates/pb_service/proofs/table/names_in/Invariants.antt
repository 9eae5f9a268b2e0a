use Rattle.std.proofs.Common.{◌≡◌, ◌++◌, drop, map, vec_len}
use Rattle.toml.specs.View.{table_view}
use Rattle.pb_service.specs.Told.{names_in}
use Rattle.pb_service.proofs.table.names_in.Given as goal

abbrev pub invariant-loop-row : goal.invariant-loop-row
invariant-loop-row l = (vec_len l.names ≡ l.row-index)
    × (map (λ n. n.now) l.names.items ++ names_in (map (λ t. table_view t.now) (drop l.row-index l.rows)) ≡ names_in
    (map (λ t. table_view t.now) l.rows))
