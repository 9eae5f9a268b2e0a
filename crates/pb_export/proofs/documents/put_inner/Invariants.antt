use Rattle.std.proofs.Common.{◌≡◌, drop}
use Rattle.serde_json.specs.View.{members_view}
use Rattle.pb_export.specs.Documents.{with_inner}
use Rattle.pb_export.proofs.documents.put_inner.Given as goal

abbrev pub invariant-loop-key : goal.invariant-loop-key
invariant-loop-key l = with_inner (drop l.key-index l.keys) l.keys l.rows (members_view l.map.entries) ≡ with_inner
    l.keys l.keys l.rows (members_view l.initial.map.entries)
