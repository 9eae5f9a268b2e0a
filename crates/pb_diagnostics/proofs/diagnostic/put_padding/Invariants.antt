use Rattle.std.proofs.Common.{◌≡◌, ◌++◌, flat_map, drop, string_bytes}
use Rattle.pb_diagnostics.specs.Texts.{pad}
use Rattle.pb_diagnostics.proofs.diagnostic.put_padding.Given as goal

-- what was appended and what remains is what is to be appended
abbrev pub invariant-loop-octet : goal.invariant-loop-octet
invariant-loop-octet l =
    string_bytes l.out ++ flat_map pad (drop l.octet-index l.text) ≡ string_bytes l.initial.out ++ flat_map pad l.text
