use Rattle.std.proofs.Common.{◌≡◌, ◌++◌, drop, flat_map, string_bytes}
use Rattle.pb_control_socket.specs.Texts.{drop_line, drop_count}
use Rattle.pb_control_socket.proofs.drops.put_numbers.Given as goal

abbrev pub invariant-loop-number : goal.invariant-loop-number
invariant-loop-number l =
    string_bytes l.out
    ++ flat_map (λ number. drop_line l.name l.port number (drop_count l.counts l.port number))
    (drop l.number-index l.numbers)
    ≡ string_bytes l.initial.out
    ++ flat_map (λ number. drop_line l.name l.port number (drop_count l.counts l.port number)) l.numbers
