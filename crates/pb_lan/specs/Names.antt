-- Names in a plan.
use Rattle.std.specs.Prelude.{ℕ, nat_le, ◌==◌, Bool, ◌&&◌, ◌||◌, List, length}
use Rattle.std.specs.List.{list_all}

-- the octet is a letter, a digit, a hyphen or an underscore
abbrev pub is_name_letter : ℕ → Bool
is_name_letter c = ((nat_le 97 c && nat_le c 122) || (nat_le 65 c && nat_le c 90)) || ((nat_le 48 c && nat_le c 57) || (c == 45 || c == 95))

-- a name: 1 to 32 letters, digits, hyphens and underscores
abbrev pub is_name : List ℕ → Bool
is_name text = (nat_le 1 (length text) && nat_le (length text) 32) && list_all is_name_letter text
