use Rattle.std.proofs.Common.{◌≡◌, ◌∙◌, map}
use Rattle.std.proofs.lemmas.Result.{IfOk-weaker}
use Rattle.pb_draw_layout.specs.Keys.{keys_of}
use Rattle.pb_draw_layout.specs.declared.scene.KeyMark.{KeyMark}
use Rattle.pb_draw_layout.proofs.keys.key_marks.Goals as goal

pub returns : goal.returns
returns c =
    IfOk-weaker c.marks_of.result
    (λ marks. map (λ (m : KeyMark). m.key) marks ≡ c.as_slice.result.now)
    (λ marks. map (λ (m : KeyMark). m.key) marks ≡ keys_of c.args.bridges.now c.args.links.now c.args.ports.now)
    (λ marks e. e ∙ c.as_slice.ensures.value ∙ c.in_ok-used.ensures)
    c.marks_of.ensures
