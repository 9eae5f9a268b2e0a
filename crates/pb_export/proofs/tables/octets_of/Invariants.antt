use Rattle.std.proofs.Common.{◌≡◌, ◌++◌, drop, map, string_bytes}
use Rattle.pb_export.proofs.tables.octets_of.Given as goal

abbrev pub invariant-loop-text : goal.invariant-loop-text
invariant-loop-text l = map (λ o. o.now) l.octets.items
    ++ map string_bytes (drop l.text-index l.texts) ≡ map string_bytes l.texts
