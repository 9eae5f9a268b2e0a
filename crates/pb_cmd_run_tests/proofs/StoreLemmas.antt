-- Files in memory (used by the functions of `over.rt`).
use Rattle.std.proofs.Common.{◌≡◌, ◌≢◌, ℕ, List, ◌∷◌, Option, Some, ap, if◌then◌else◌, nat_eq}
use Rattle.std.proofs.lemmas.Bool.{false_from_ne_true}
use Rattle.std.specs.Cmp.Lexicographic.{pointwise, bytes_decides}
use Rattle.pb_cmd_run_tests.specs.Stores.{held_in}

-- the newest file is at its path
pub held_there : {X : Type 0} (path_of octets_of : X → List ℕ) (entry : List ℕ) (x : X) (xs : List X) (path : List ℕ)
    → path_of x ≡ path → held_in path_of octets_of entry (x ∷ xs) path ≡ Some (octets_of x)
held_there path_of octets_of entry x xs path is =
    ap (λ b. if b then Some (octets_of x) else held_in path_of octets_of entry xs path)
    ((bytes_decides (path_of x) path).1 is)

-- other paths are as before
pub held_elsewhere : {X : Type 0} (path_of octets_of : X → List ℕ) (entry : List ℕ) (x : X) (xs : List X)
    (path : List ℕ) → path_of x ≢ path
    → held_in path_of octets_of entry (x ∷ xs) path ≡ held_in path_of octets_of entry xs path
held_elsewhere path_of octets_of entry x xs path other =
    ap (λ b. if b then Some (octets_of x) else held_in path_of octets_of entry xs path)
    (false_from_ne_true (pointwise nat_eq (path_of x) path) (λ is. other ((bytes_decides (path_of x) path).0 is)))
