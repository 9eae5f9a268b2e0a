use Rattle.std.proofs.Common.{◌≡◌, ◌++◌, codes, drop, IfSome}
use Rattle.pb_run_ports.specs.declared.open_fault.FileUser.TheVariants.{Plan, Report}
use Rattle.pb_run_ports.specs.Uses.{use_of, uses_in}
use Rattle.pb_run_ports.proofs.uses.find_clash.Given as goal

abbrev pub invariant-loop-place : goal.invariant-loop-place
invariant-loop-place g l = IfSome (g.O.Openings.named l.opener)
    (λ name. l.uses.items ++ uses_in name l.place (drop l.place l.specs)
    ≡ use_of Plan (name l.plan_path) ++ use_of Report (name (codes "/dev/stdout")) ++ uses_in name 0 l.specs)
