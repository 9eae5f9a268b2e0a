use Rattle.std.proofs.Common.{sym, ap, ◌∙◌}
use Rattle.pb_fdb.specs.Entries.{fresh_entries}
use Rattle.pb_fdb.proofs.OrderLemmas.{oldest-fresh, oldest-none}
use Rattle.pb_fdb.proofs.table.forget_old.Goals as goal

pub returns-then-is_fresh : goal.returns-then-is_fresh
returns-then-is_fresh c =
    c.oldest.ensures.entries ∙ sym (oldest-fresh c.args.ageing c.args.now c.loop-entry.journal c.in-Some.entry
    c.loop-entry.invariant.order (sym c.in-Some.is ∙ c.oldest.ensures.oldest)
    (sym c.is_fresh.ensures ∙ c.if-is_fresh.true))
    ∙ c.loop-entry.invariant.fresh

pub returns : goal.returns
returns c =
    let none = oldest-none c.loop-entry.journal (sym c.in_default.is ∙ c.oldest.ensures.oldest) in
    c.oldest.ensures.entries ∙ none ∙ ap (fresh_entries c.args.ageing c.args.now) (sym none)
    ∙ c.loop-entry.invariant.fresh
