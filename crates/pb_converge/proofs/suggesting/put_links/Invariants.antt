use Rattle.std.proofs.Common.{◌≡◌, ◌++◌, map, take, string_bytes}
use Rattle.pb_converge.proofs.suggesting.put_links.Given as goal

abbrev pub invariant-loop-link : goal.invariant-loop-link
invariant-loop-link l =
    map string_bytes l.names.items ≡ map string_bytes l.initial.names.items
    ++ map (λ x. x.name) (take l.link-index l.plan.links)
