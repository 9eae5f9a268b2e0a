use Rattle.std.proofs.Common.{[], not, ◌==◌, sym, ap, subst, ◌∙◌}
use Rattle.pb_fdb.specs.Entries.{sightings, table_of, IsKept}
use Rattle.pb_fdb.specs.Tables.{flushed}
use Rattle.pb_fdb.proofs.EntryLemmas.{filter-map}
use Rattle.pb_fdb.proofs.OrderLemmas.{IsKept-filter}
use Rattle.pb_fdb.proofs.table.Fdb.flush.Goals as goal

pub invariant_of-self : goal.invariant_of-self
invariant_of-self c =
    let f = c.self.inside in
    subst (IsKept f.limit f.ageing f.clock) (sym c.flush.ensures)
    (IsKept-filter f.limit f.ageing f.clock (λ e. not (c.args.port == e.port)) f.journal c.self.invariant)

pub returns : goal.returns
returns c =
    ap (λ zs. record (table_of c.self.inside.limit c.self.inside.ageing c.self.inside.clock []) { sightings = zs })
    (ap sightings c.flush.ensures ∙ sym (filter-map (λ s. not (c.args.port == s.port)) c.self.inside.journal))
    ∙ ap (λ t. flushed t c.args.port) c.self.view_is
