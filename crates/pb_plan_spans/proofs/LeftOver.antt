-- The rest of a file that a loop has not read.
use Rattle.std.proofs.Common.{ℕ, suc, List, Bor, length}
use Rattle.std.specs.Prelude.{Option}
use Rattle.std.specs.Option.{option_map_or}

-- its length, and one more while a line remains (the loops get shorter by it)
abbrev pub left_of : Option (Bor (List ℕ)) → ℕ
left_of rest = option_map_or (λ text. suc (length text.now)) rest 0
