use Rattle.std.proofs.Common.{◌≤◌, ◌+◌, ◌*◌, ◌∙◌, sym, ap, arith, get_or}
use Rattle.pb_history.proofs.StepLemmas.{dropped_count}
use Rattle.std.specs.List.{count_by}
use Rattle.pb_history.specs.Drops.{number_of, is_dropped}
use Rattle.pb_history.proofs.drops.Drops.at.Goals as goal

pub returns : goal.returns
returns c =
    let port = c.args.port in
    let reason = c.args.reason in
    let small = c.drop_number.ensures.few in
    let same = c.drop_number.ensures.exact in
    let first = c.from.ensures in
    let second = c.from-2.ensures in
    let within = c.requires in
    ap (λ place. get_or c.self.inside.counts place 0)
    (ap (λ n. 10 * n + c.from-2.result) first ∙ ap (λ n. 10 * port + n) (second ∙ same))
    ∙ c.self.invariant (10 * port + number_of reason) (omega (arith, small, same, within))
    ∙ dropped_count port reason c.self.inside.past.items
    ∙ ap (count_by (is_dropped port reason)) c.self.view_is
