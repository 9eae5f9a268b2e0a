use Rattle.std.proofs.Common.{◌≡◌, ◌++◌, drop, map}
use Rattle.pb_trace_svg.specs.Hops.{refusal}
use Rattle.pb_trace_svg.proofs.hops.push_refused.Given as goal

abbrev pub invariant-loop-one : goal.invariant-loop-one
invariant-loop-one l =
    l.hops.items ++ map (refusal l.bridge) (drop l.one-index l.refused) ≡ l.initial.hops.items
    ++ map (refusal l.bridge) l.refused
