use Rattle.std.proofs.Common.{◌≡◌, ◌++◌, drop, string_bytes}
use Rattle.pb_cmd_run.specs.PortFaults.{words_lines}
use Rattle.pb_cmd_run.proofs.port_faults.put_all_words.Given as goal

abbrev pub invariant-loop-place : goal.invariant-loop-place
invariant-loop-place l =
    string_bytes l.out ++ words_lines l.files l.place (drop l.place l.customers) (drop l.place l.lasts)
    ≡ string_bytes l.initial.out ++ words_lines l.files 0 l.customers l.lasts
