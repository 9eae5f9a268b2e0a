use Rattle.std.proofs.Common.{◌≡◌, ◌++◌, ◌∷◌, drop, flat_map, string_bytes}
use Rattle.pb_cmd_survive.proofs.survive.put_names.Given as goal

abbrev pub invariant-loop-name : goal.invariant-loop-name
invariant-loop-name l =
    string_bytes l.out ++ flat_map (λ w. 32 ∷ string_bytes w) (drop l.name-index l.names)
    ≡ string_bytes l.initial.out ++ flat_map (λ w. 32 ∷ string_bytes w) l.names
