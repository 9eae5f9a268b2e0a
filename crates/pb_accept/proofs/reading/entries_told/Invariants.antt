use Rattle.std.proofs.Common.{◌≡◌, ◌++◌, drop}
use Rattle.std.specs.Option.{option_map}
use Rattle.toml.specs.View.{items_view}
use Rattle.pb_accept.specs.Acceptances.{entries_told}
use Rattle.pb_accept.proofs.reading.entries_told.Given as goal

abbrev pub invariant-loop-index : goal.invariant-loop-index
invariant-loop-index l =
    option_map (λ later. l.entries.items ++ later) (entries_told l.plan (items_view (drop l.index l.items)))
    ≡ entries_told l.plan (items_view l.items)
