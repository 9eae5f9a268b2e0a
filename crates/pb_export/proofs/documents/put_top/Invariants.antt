use Rattle.std.proofs.Common.{◌≡◌, drop}
use Rattle.serde_json.specs.View.{members_view}
use Rattle.pb_export.specs.Documents.{with_top}
use Rattle.pb_export.proofs.documents.put_top.Given as goal

abbrev pub invariant-loop-row : goal.invariant-loop-row
invariant-loop-row l = with_top (drop l.row-index l.rows) (members_view l.map.entries) ≡ with_top l.rows
    (members_view l.initial.map.entries)
