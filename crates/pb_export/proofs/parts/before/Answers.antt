use Rattle.std.proofs.Common.{◌≡◌, ◌<◌, length, None, arith, rules}
use Rattle.std.proofs.lemmas.Grind.{common_steps}
use Rattle.pb_export.proofs.PartLemmas.{before_some, before_none}
use Rattle.pb_export.proofs.parts.before.Goals as goal

pub returns-in_err-find-clause-first : goal.returns-in_err-find-clause-first
returns-in_err-find-clause-first c =
    let some : 0 < length c.args.next.now = first_of (search rules, omega arith, grind (arith, common_steps)) in
    let none : c.from_residual.result ≡ None = search rules in
    rw none (λ front back. before_none c.args.next.now c.args.text.now front back some c.in_err-find.ensures.cases)

pub returns-clause-first : goal.returns-clause-first
returns-clause-first c =
    let some : 0 < length c.args.next.now = first_of (search rules, omega arith, grind (arith, common_steps)) in
    let cut = c.split_at_checked.ensures in
    before_some c.args.next.now c.args.text.now c.in_ok-find.field-0 c.split_at_checked.result some
    c.in_ok-find.ensures.cases cut.variant cut.front cut.back cut.front_len
