use Rattle.pb_trace_svg.proofs.svg_hops.put_number.Goals as goal

pub returns : goal.returns
returns c = c.in_ok-write.ensures.bytes
