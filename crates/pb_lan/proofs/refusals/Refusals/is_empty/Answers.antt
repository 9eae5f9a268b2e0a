use Rattle.std.proofs.Common.{◌==◌, ℕ, List, length, ap, ◌∙◌, arith}
use Rattle.pb_lan.specs.declared.step.NoRoom.{NoRoom}
use Rattle.pb_lan.proofs.PortBits.{empty_words}
use Rattle.pb_lan.proofs.refusals.Refusals.is_empty.Goals as goal

pub returns : goal.returns
returns c = empty_words c.self.inside.words (omega arith)
    ∙ ap (λ (rs : List (ℕ × NoRoom)). length rs == 0) c.self.view_is
