use Rattle.std.proofs.Common.{[], ◌≤◌, sym, ap, subst, ◌∙◌}
use Rattle.pb_frame.specs.Stations.{is_fresh}
use Rattle.pb_fdb.specs.Entries.{sighting_of, sightings, table_of, IsKept}
use Rattle.pb_fdb.specs.Tables.{Table, expired}
use Rattle.pb_fdb.proofs.EntryLemmas.{filter-map}
use Rattle.pb_fdb.proofs.OrderLemmas.{IsKept-filter, IsKept-later}
use Rattle.pb_fdb.proofs.table.Fdb.expire.Goals as goal

pub invariant_of-self : goal.invariant_of-self
invariant_of-self c =
    let f = c.self.inside in
    let now = c.args.now in
    let in_time = subst (λ (t : Table). t.clock ≤ now) (sym c.self.view_is) c.requires in
    subst (IsKept f.limit f.ageing now) (sym c.forget_old.ensures)
    (IsKept-filter f.limit f.ageing now (λ e. is_fresh f.ageing now (sighting_of e)) f.journal
    (IsKept-later f.limit f.ageing f.clock now f.journal in_time c.self.invariant))

pub returns : goal.returns
returns c =
    ap (λ zs. record (table_of c.self.inside.limit c.self.inside.ageing c.args.now []) { sightings = zs })
    (ap sightings c.forget_old.ensures
    ∙ sym (filter-map (is_fresh c.self.inside.ageing c.args.now) c.self.inside.journal))
    ∙ ap (λ t. expired t c.args.now) c.self.view_is
