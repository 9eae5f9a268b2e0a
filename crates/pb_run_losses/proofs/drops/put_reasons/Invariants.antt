use Rattle.std.proofs.Common.{◌≡◌, ◌++◌, drop, flat_map, string_bytes}
use Rattle.pb_run_losses.specs.Drops.{reason_line}
use Rattle.pb_run_losses.proofs.drops.put_reasons.Given as goal

-- the lines so far, followed by those of the remaining reasons, are the lines of all reasons
abbrev pub invariant-loop-reason : goal.invariant-loop-reason
invariant-loop-reason l =
    string_bytes l.out ++ flat_map (reason_line l.name l.port l.tally l.between l.choice.late l.choice.lost)
    (drop l.reason-index l.reasons)
    ≡ string_bytes l.initial.out ++ flat_map (reason_line l.name l.port l.tally l.between l.choice.late l.choice.lost)
    l.reasons
