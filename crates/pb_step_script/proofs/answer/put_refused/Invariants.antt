use Rattle.std.proofs.Common.{◌≡◌, ◌++◌, drop, string_bytes}
use Rattle.pb_step_script.specs.Answers.{refused_words}
use Rattle.pb_step_script.proofs.answer.put_refused.Given as goal

abbrev pub invariant-loop-port : goal.invariant-loop-port
invariant-loop-port l = string_bytes l.out ++ refused_words (drop l.port-index l.refused) ≡ string_bytes l.initial.out
    ++ refused_words l.refused
