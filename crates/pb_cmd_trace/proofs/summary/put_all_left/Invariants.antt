use Rattle.std.proofs.Common.{◌≡◌, ◌+◌, ◌++◌, drop, flat_map, string_bytes}
use Rattle.pb_lan.specs.Numbering.{numbers_from}
use Rattle.pb_cmd_trace.specs.Summaries.{left_word, left_words}
use Rattle.pb_cmd_trace.proofs.summary.put_all_left.Given as goal

abbrev pub invariant-loop-place : goal.invariant-loop-place
invariant-loop-place l =
    string_bytes l.out ++ flat_map (left_word l.plan l.rec)
    (numbers_from (l.place + 1) (drop l.place l.plan.customers)) ≡ string_bytes l.initial.out
    ++ left_words l.plan l.rec
