use Rattle.std.proofs.Common.{◌≡◌, drop}
use Rattle.serde_json.specs.View.{members_view}
use Rattle.pb_export.specs.Documents.{with_fields}
use Rattle.pb_export.proofs.documents.put_fields.Given as goal

abbrev pub invariant-loop-filled : goal.invariant-loop-filled
invariant-loop-filled l = with_fields (drop l.filled-index l.fields) (members_view l.map.entries) ≡ with_fields
    l.fields (members_view l.initial.map.entries)
