use Rattle.std.proofs.Common.{◌∙◌, append_assoc}
use Rattle.pb_trace_svg.proofs.svg_hops.put_lane_data.Goals as goal

pub returns : goal.returns
returns c = (rw (c.link_name-link.ensures, c.link_of.ensures, c.far_name-far.ensures) at c.in_ok-write.ensures.bytes)
    ∙ simp append_assoc
