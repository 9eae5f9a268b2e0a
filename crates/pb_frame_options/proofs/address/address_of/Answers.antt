use Rattle.std.proofs.Common.{ℕ, arith, length-set}
use Rattle.pb_frame.proofs.HexLemmas.{pairs_more}
use Rattle.pb_frame_options.proofs.address.address_of.Goals as goal

pub loop-i-preserved : goal.loop-i-preserved
loop-i-preserved c = (
  pairs_more c.as_bytes-digits.result.now c.loop-i.octets c.loop-i.i c.in_ok-octets.field-0 (omega arith)
      c.loop-i.invariant.0 c.in_ok-octets.ensures.pair,
  omega (arith, length-set {A = ℕ}),
)
