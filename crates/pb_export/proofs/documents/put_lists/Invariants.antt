use Rattle.std.proofs.Common.{◌≡◌, drop}
use Rattle.serde_json.specs.View.{members_view}
use Rattle.pb_export.specs.Documents.{with_lists}
use Rattle.pb_export.proofs.documents.put_lists.Given as goal

abbrev pub invariant-loop-list : goal.invariant-loop-list
invariant-loop-list l = with_lists (drop l.list-index l.lists) l.rows (members_view l.map.entries) ≡ with_lists
    l.lists l.rows (members_view l.initial.map.entries)
