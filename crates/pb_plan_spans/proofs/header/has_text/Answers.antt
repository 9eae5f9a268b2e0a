use Rattle.std.proofs.Common.{◌≡◌, false, drop, sym, ◌∙◌, ap}
use Rattle.std.proofs.lemmas.List.{take_rest}
use Rattle.pb_plan_spans.specs.Lines.{begins_text}
use Rattle.pb_plan_spans.proofs.LineLemmas.{text_more}
use Rattle.pb_plan_spans.proofs.header.has_text.Goals as goal

pub loop-i-preserved : goal.loop-i-preserved
loop-i-preserved c =
    let file = c.args.file.now in
    let i = c.loop-i.i in
    let none : begins_text (drop i file) ≡ false = ap begins_text (sym (take_rest file i)) ∙ sym c.begins_text.ensures
    ∙ c.if-begins_text.false in
    sym (text_more file i c.loop-i-test.true none) ∙ c.loop-i.invariant
