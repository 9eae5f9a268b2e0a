use Rattle.std.proofs.Common.{◌++◌, List, ℕ, ap, ◌∙◌, add-one, rules}
use Rattle.pb_export.specs.Fitting.{spaces}
use Rattle.pb_export.proofs.TextLemmas.{spaces_more}
use Rattle.pb_export.proofs.parts.depth_at.Goals as goal

pub loop-depth-preserved : goal.loop-depth-preserved
loop-depth-preserved c = record {
  text_is = rw add-one (c.loop-depth.invariant.text_is ∙ ap (λ (z : List ℕ). spaces c.loop-depth.depth ++ z)
      c.in-Some.ensures
      ∙ spaces_more c.loop-depth.depth c.in-Some.inner.now);
  utf8 = search rules;
}
