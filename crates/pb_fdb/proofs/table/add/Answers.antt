use Rattle.std.proofs.Common.{◌≤◌, nat_le, ap, subst, sym, ◌∙◌}
use Rattle.pb_frame.proofs.Lists.{All-passed}
use Rattle.pb_fdb.specs.Entries.{InOrder, without_station}
use Rattle.pb_fdb.proofs.LearnLemmas.{swept-renewed}
use Rattle.pb_fdb.proofs.OrderLemmas.{InOrder-filter, InOrder-push}
use Rattle.pb_fdb.proofs.table.add.Goals as goal

pub sweep-requires : goal.sweep-requires
sweep-requires c =
    let es = c.args.journal.now in
    let e = c.args.entry in
    subst InOrder (sym c.in_ok-replace.ensures.ok)
    (InOrder-push (without_station e es) e (InOrder-filter _ es c.requires.order)
    (All-passed (λ f. f.learnt ≤ e.learnt) _ es c.requires.before))

pub returns-clause-ok : goal.returns-clause-ok
returns-clause-ok c =
    c.sweep.ensures ∙ swept-renewed _ c.args.limit c.args.ageing c.args.entry c.args.journal.now c.replace.new.self
    (ap (nat_le c.args.limit) c.len.ensures) c.requires.ageing c.in_ok-replace.ensures.ok
