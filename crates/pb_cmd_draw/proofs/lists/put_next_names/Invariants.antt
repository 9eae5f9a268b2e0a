use Rattle.std.proofs.Common.{◌≡◌, ◌++◌, drop, flat_map, string_bytes}
use Rattle.pb_cmd_draw.specs.Lists.{next_name}
use Rattle.pb_cmd_draw.proofs.lists.put_next_names.Given as goal

abbrev pub invariant-loop-number : goal.invariant-loop-number
invariant-loop-number l =
    string_bytes l.out ++ flat_map (next_name l.plan) (drop l.number-index l.numbers) ≡ string_bytes l.initial.out
    ++ flat_map (next_name l.plan) l.numbers
