use Rattle.std.proofs.Common.{◌≡◌, Some, slice_get, subst, ◌∙◌}
use Rattle.pb_cmd_report.proofs.raise.raise_whole.Goals as goal

pub returns : goal.returns
returns c =
    let up = rw c.in-Ok.is at c.in_ok-standing.ensures in
    (up.0, up.1 ∙ c.requires.none, up.2 ∙ c.patience_of.ensures, up.3)

pub unreachable-requires : goal.unreachable-requires
unreachable-requires c =
    let refused = rw c.in-Err.is at c.in_ok-standing.ensures in
    let none = subst (λ ns. slice_get ns refused.index ≡ Some refused.w) c.requires.none refused.there in
    cc
