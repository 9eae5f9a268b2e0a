use Rattle.std.proofs.Common.{◌≡◌, ◌++◌}
use Rattle.pb_export.specs.Fitting.{spaces}
use denote.Shadow.{shadow}
use denote.Text.{Utf8}
use Rattle.pb_export.proofs.parts.depth_at.Given as goal

abbrev pub invariant-loop-depth : goal.invariant-loop-depth
invariant-loop-depth l = record { text_is : l.fn.text ≡ spaces l.depth ++ l.rest; utf8 : shadow (Utf8 l.rest) }
