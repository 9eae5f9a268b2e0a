use Rattle.std.proofs.Common.{◌≡◌, ◌++◌, drop, string_bytes}
use Rattle.pb_step_script.specs.Answers.{port_words, copied}
use Rattle.pb_step_script.proofs.answer.put_ports.Given as goal

abbrev pub invariant-loop-port : goal.invariant-loop-port
invariant-loop-port l = string_bytes l.out ++ port_words (copied l.refused (drop l.port-index l.chosen))
    ≡ string_bytes l.initial.out ++ port_words (copied l.refused l.chosen)
