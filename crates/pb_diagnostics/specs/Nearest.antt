-- The nearest of several names.
use Rattle.std.specs.Prelude.{ℕ, Bool, List, [], ◌∷◌, Some, None, Option, length, nat_eq, nat_lt, if◌then◌else◌}
use Rattle.std.specs.Str.{chars}
use Rattle.strsim.specs.Edits.{levenshtein_row}

-- the characters to insert, remove or replace until one text is the other (the distance of Levenshtein)
abbrev pub edits : List ℕ → List ℕ → ℕ
edits from to = levenshtein_row nat_eq (chars from) (chars to) (length (chars to))

-- the first name that passes the test
abbrev pub first : (List ℕ → Bool) → List (List ℕ) → Option (List ℕ)
first test [] = None
first test (name ∷ names) = if test name then Some name else first test names

-- the first name that fewer than so many edits lead to
abbrev pub first_within : ℕ → List ℕ → List (List ℕ) → Option (List ℕ)
first_within limit text names = first (λ name. nat_lt (edits text name) limit) names

-- the first of these, or else the second
abbrev pub this_or : Option (List ℕ) → Option (List ℕ) → Option (List ℕ)
this_or (Some name) other = Some name
this_or None other = other

-- the first name that one edit leads to, or else two edits
abbrev pub nearest : List ℕ → List (List ℕ) → Option (List ℕ)
nearest text names = this_or (first_within 2 text names) (first_within 3 text names)
