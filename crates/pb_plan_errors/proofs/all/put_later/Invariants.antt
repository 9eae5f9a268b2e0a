use Rattle.std.proofs.Common.{◌≤◌, length}
use Rattle.pb_plan_errors.specs.Errors.{HasErrors}
use Rattle.pb_plan_errors.proofs.all.put_later.Given as goal

-- one error at most was found in each round
abbrev pub invariant-loop-round : goal.invariant-loop-round
invariant-loop-round l = record {
  few : length l.errors.items ≤ l._round;
  found : HasErrors l.file l.errors.items;
}
