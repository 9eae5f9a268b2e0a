use Rattle.std.proofs.Common.{None, ap, ◌∙◌, slice_set}
use Rattle.pb_run.proofs.EndsThere.{inner_stay, outer_stay}
use Rattle.pb_run.proofs.wires.Ends.inner.Goals as goal

pub inlet-inlet-requires : goal.inlet-inlet-requires
inlet-inlet-requires g c = rw c.ring_into.ensures c.requires.receiving

pub outlet-outlet-requires : goal.outlet-outlet-requires
outlet-outlet-requires g c = rw (c.inlet-inlet.ensures.outlets, c.ring_out.ensures) c.requires.sending

pub returns-clause-inner : goal.returns-clause-inner
returns-clause-inner g c =
    inner_stay _ _ _ _ (c.args.bridge, c.args.port) _ _ c.requires c.ring_into.ensures c.ring_out.ensures
    (c.outlet-outlet.ensures.inlets ∙ c.inlet-inlet.ensures.inlets)
    (c.outlet-outlet.ensures.outlets ∙ ap (λ ends. slice_set ends c.ring_out.result None) c.inlet-inlet.ensures.outlets)

pub returns-clause-outer : goal.returns-clause-outer
returns-clause-outer g c =
    outer_stay _ _ _ _ (c.args.bridge, c.args.port) _ _ c.requires c.ring_into.ensures c.ring_out.ensures
    (c.outlet-outlet.ensures.inlets ∙ c.inlet-inlet.ensures.inlets)
    (c.outlet-outlet.ensures.outlets ∙ ap (λ ends. slice_set ends c.ring_out.result None) c.inlet-inlet.ensures.outlets)
