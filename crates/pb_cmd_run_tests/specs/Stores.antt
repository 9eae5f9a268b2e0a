-- Files in memory.
use Rattle.std.specs.Prelude.{ℕ, Option, Some, List, [], ◌∷◌, if◌then◌else◌, nat_eq}
use Rattle.std.specs.Cmp.Lexicographic.{pointwise}

-- the octets of the file at a path: those that a run closed there last, or else those that each file has before a run
abbrev pub held_in : {X : Type 0} → (X → List ℕ) → (X → List ℕ) → List ℕ → List X → List ℕ → Option (List ℕ)
held_in path_of octets_of entry [] path = Some entry
held_in path_of octets_of entry (x ∷ xs) path =
    if pointwise nat_eq (path_of x) path then Some (octets_of x) else held_in path_of octets_of entry xs path
