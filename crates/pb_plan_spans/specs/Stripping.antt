-- The rest of a text after its beginning.
use Rattle.std.specs.Prelude.{ℕ, Bool, false, ◌==◌, List, [], ◌∷◌, length, Option, Some, None, if◌then◌else◌}
use Rattle.std.specs.Option.{option_map_or}

-- the rest of the text after these first octets, if it begins with them
abbrev pub behind : List ℕ → List ℕ → Option (List ℕ)
behind [] text = Some text
behind (b ∷ bs) [] = None
behind (b ∷ bs) (x ∷ text) = if x == b then behind bs text else None

-- there is a rest, and it is empty
abbrev pub ends : Option (List ℕ) → Bool
ends left = option_map_or (λ text. length text == 0) left false
