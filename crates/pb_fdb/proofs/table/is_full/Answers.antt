use Rattle.std.proofs.Common.{sym, ◌∙◌, arith}
use Rattle.std.proofs.lemmas.Bool.Decides.{nat_tests}
use Rattle.pb_frame.specs.Stations.{is_fresh}
use Rattle.pb_fdb.specs.Entries.{sighting_of}
use Rattle.pb_fdb.proofs.EntryLemmas.{filter-shorter}
use Rattle.pb_fdb.proofs.OrderLemmas.{full-fresh, oldest-none}
use Rattle.pb_fdb.proofs.table.is_full.Goals as goal

pub returns-then-len-limit : goal.returns-then-len-limit
returns-then-len-limit c =
    let s = filter-shorter (λ e. is_fresh c.args.ageing c.args.now (sighting_of e)) c.args.journal.now in
    grind (arith, nat_tests, s)

pub returns-in-Some-clause-entries : goal.returns-in-Some-clause-entries
returns-in-Some-clause-entries c = c.oldest.ensures.entries

pub returns-in-Some-clause-full : goal.returns-in-Some-clause-full
returns-in-Some-clause-full c = c.is_fresh.ensures
    ∙ full-fresh c.args.limit c.args.ageing c.args.now c.args.journal.now c.in-Some.entry c.requires.order
    c.requires.fits (omega arith) (sym c.in-Some.is ∙ c.oldest.ensures.oldest)

pub returns-in-None-clause-entries : goal.returns-in-None-clause-entries
returns-in-None-clause-entries c = c.oldest.ensures.entries

pub returns-in-None-clause-full : goal.returns-in-None-clause-full
returns-in-None-clause-full c =
    let none = oldest-none c.args.journal.now (sym c.in-None.is ∙ c.oldest.ensures.oldest) in
    rw none (grind (arith, nat_tests, none))
