use Rattle.std.proofs.Common.{◌≡◌, nat_eq, drop}
use Rattle.pb_frame.specs.Lists.{first}
use Rattle.pb_cmd_survive.specs.Failures.{is_out}
use Rattle.pb_cmd_survive.specs.Groups.{color_of}
use Rattle.pb_cmd_survive.proofs.sites.lead_of.Given as goal

-- the first port from here on is the first of all
abbrev pub invariant-loop-other : goal.invariant-loop-other
invariant-loop-other l =
    first (λ q. nat_eq (color_of l.plan l.marks (is_out l.plan l.names l.failure) q) l.color)
    (drop l.other-index l.ports) ≡ first
    (λ q. nat_eq (color_of l.plan l.marks (is_out l.plan l.names l.failure) q) l.color) l.ports
