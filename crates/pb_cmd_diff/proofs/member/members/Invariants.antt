use Rattle.std.proofs.Common.{◌≡◌, ◌++◌, drop, flat_map}
use Rattle.pb_cmd_diff.specs.Members.{member_by, site_in}
use Rattle.pb_cmd_diff.proofs.member.members.Given as goal

abbrev pub invariant-loop-site : goal.invariant-loop-site
invariant-loop-site l =
    l.members.items ++ flat_map (λ s. member_by s (site_in l.old l.new l.news s)) (drop l.site-index l.olds)
    ≡ l.initial.members.items ++ flat_map (λ s. member_by s (site_in l.old l.new l.news s)) l.olds
