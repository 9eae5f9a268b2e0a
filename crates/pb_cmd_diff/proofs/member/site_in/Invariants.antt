use Rattle.std.proofs.Common.{◌≡◌, nat_eq, drop}
use Rattle.pb_frame.specs.Lists.{first}
use Rattle.pb_cmd_diff.proofs.member.site_in.Given as goal

-- the first port from here on is the first of all
abbrev pub invariant-loop-other : goal.invariant-loop-other
invariant-loop-other l =
    first (λ t. nat_eq t.port l.port) (drop l.other-index l.news) ≡ first (λ t. nat_eq t.port l.port) l.news
