use Rattle.std.proofs.Common.{◌≡◌, ◌+◌, drop}
use Rattle.pb_lan.specs.Events.{number_of}
use Rattle.pb_warnings.specs.Rules.{is_least, root_of}
use Rattle.pb_warnings.proofs.root.root_of.Given as goal

-- no bridge so far has the least identifier
abbrev pub invariant-loop-place : goal.invariant-loop-place
invariant-loop-place l = number_of (is_least l.plan) (l.place + 1) (drop l.place l.plan.bridges) ≡ root_of l.plan
