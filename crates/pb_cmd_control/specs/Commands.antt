-- The commands that arguments give.
use Rattle.std.specs.Prelude.{ℕ, Bool, true, false, List, [], ◌∷◌, ◌++◌, codes, nat_eq, if◌then◌else◌}
use Rattle.std.specs.Cmp.Lexicographic.{pointwise}

-- a line for each command, with its arguments and one space between them, if the argument `--` ends a command (the flag
-- says whether a command begins)
abbrev pub lines_of_arguments : Bool → List (List ℕ) → List ℕ
lines_of_arguments begins [] = 10 ∷ []
lines_of_arguments begins (argument ∷ arguments) =
    if pointwise nat_eq argument (codes "--") then 10 ∷ lines_of_arguments true arguments
    else (if begins then argument else 32 ∷ argument) ++ lines_of_arguments false arguments
