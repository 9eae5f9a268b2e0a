use Rattle.std.proofs.Common.{◌≡◌, ◌++◌, drop, map}
use Rattle.pb_draw_layout.specs.declared.scene.KeyMark.{KeyMark}
use Rattle.pb_draw_layout.proofs.keys.marks_of.Given as goal

-- the signs of the marks so far, then those from here on, are all
abbrev pub invariant-loop-key : goal.invariant-loop-key
invariant-loop-key l = map (λ (m : KeyMark). m.key) l.marks.items ++ drop l.key-index l.keys ≡ l.keys
