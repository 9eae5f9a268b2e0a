use Rattle.std.proofs.Common.{◌≡◌, ◌++◌, ◌-◌, string_bytes}
use Rattle.pb_diagnostics.specs.Texts.{carets}
use Rattle.pb_diagnostics.proofs.diagnostic.put_carets.Given as goal

-- what was appended and what remains is what is to be appended
abbrev pub invariant-loop-put : goal.invariant-loop-put
invariant-loop-put l = string_bytes l.out ++ carets (l.count - l._put) ≡ string_bytes l.initial.out ++ carets l.count
