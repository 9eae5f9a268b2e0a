use Rattle.std.proofs.Common.{◌≡◌, ◌+◌, ◌++◌, drop, flat_map, string_bytes}
use Rattle.pb_lan.specs.Numbering.{numbers_from}
use Rattle.pb_cmd_trace.specs.Summaries.{passed_word, passed_words}
use Rattle.pb_cmd_trace.proofs.round.put_all_passed.Given as goal

abbrev pub invariant-loop-place : goal.invariant-loop-place
invariant-loop-place l =
    string_bytes l.out ++ flat_map (passed_word l.plan l.rec l.frame)
    (numbers_from (l.place + 1) (drop l.place l.plan.links)) ≡ string_bytes l.initial.out
    ++ passed_words l.plan l.rec l.frame
