use Rattle.std.proofs.Common.{None, ap, ◌∙◌, slice_set}
use Rattle.pb_run.proofs.EndsThere.{outer_rest}
use Rattle.pb_run.proofs.wires.Ends.outer.Goals as goal

pub outlet-outlet-requires : goal.outlet-outlet-requires
outlet-outlet-requires g c = rw c.ring_into.ensures c.requires.sending

pub inlet-inlet-requires : goal.inlet-inlet-requires
inlet-inlet-requires g c = rw (c.outlet-outlet.ensures.inlets, c.ring_out.ensures) c.requires.receiving

pub returns-clause-outer : goal.returns-clause-outer
returns-clause-outer g c =
    outer_rest _ _ _ _ (c.args.bridge, c.args.port) _ _ c.requires c.ring_into.ensures c.ring_out.ensures
    (c.inlet-inlet.ensures.outlets ∙ c.outlet-outlet.ensures.outlets)
    (c.inlet-inlet.ensures.inlets ∙ ap (λ ends. slice_set ends c.ring_out.result None) c.outlet-outlet.ensures.inlets)
