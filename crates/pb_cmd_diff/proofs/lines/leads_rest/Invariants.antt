use Rattle.std.proofs.Common.{◌≡◌, drop}
use Rattle.pb_frame.specs.Lists.{first}
use Rattle.pb_cmd_diff.specs.Reports.{is_still}
use Rattle.pb_cmd_diff.proofs.lines.leads_rest.Given as goal

-- the first port from here on is the first of all
abbrev pub invariant-loop-other : goal.invariant-loop-other
invariant-loop-other l = first (is_still l.one) (drop l.other-index l.members) ≡ first (is_still l.one) l.members
