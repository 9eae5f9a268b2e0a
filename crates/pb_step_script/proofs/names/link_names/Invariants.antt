use Rattle.std.proofs.Common.{◌≡◌, map, take}
use Rattle.pb_step_script.proofs.names.link_names.Given as goal

abbrev pub invariant-loop-link : goal.invariant-loop-link
invariant-loop-link l = map (λ n. n.now) l.names.items ≡ map (λ b. b.name) (take l.link-index l.plan.links)
