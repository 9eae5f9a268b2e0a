use Rattle.pb_draw_layout.proofs.PathLemmas.{LitFirst}
use Rattle.pb_draw_layout.proofs.findings.lit_links.Given as goal

-- of the links so far those are lit that are on paths
abbrev pub invariant-loop-place : goal.invariant-loop-place
invariant-loop-place l = LitFirst l.plan l.shape l.service l.place l.lit.items
