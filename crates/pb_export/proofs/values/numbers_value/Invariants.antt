use Rattle.std.proofs.Common.{◌≡◌, ◌++◌, drop, map}
use Rattle.serde_json.specs.Data.{number, unsigned}
use Rattle.serde_json.specs.View.{view}
use Rattle.pb_export.proofs.values.numbers_value.Given as goal

abbrev pub invariant-loop-number : goal.invariant-loop-number
invariant-loop-number l = map view l.values.items ++ map (λ n. number (unsigned n)) (drop l.number-index l.numbers)
    ≡ map (λ n. number (unsigned n)) l.numbers
