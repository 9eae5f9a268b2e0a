use Rattle.std.proofs.Common.{sym, ap, ◌∙◌, Some}
use Rattle.indexmap.specs.IndexMap.{get}
use Rattle.pb_fdb.specs.Journals.{is_same}
use Rattle.pb_fdb.proofs.SlotLemmas.{seen-at, station-at}
use Rattle.pb_fdb.proofs.StationLemmas.{same_station}
use Rattle.pb_fdb.proofs.journal.slot_of.Goals as goal

pub returns-in-Some-clause-station : goal.returns-in-Some-clause-station
returns-in-Some-clause-station c =
    let same = same_station c.in-Some.station.now c.args.place.now.station (sym c.eq.ensures ∙ c.if-eq.true) in
    station-at c.args.index.now c.args.place.now.slot c.in-Some.station.now c.in-Some.field-0-1.now
    (sym c.in-Some.ensures.entry) ∙ ap Some same

pub returns-in-Some-clause-seen : goal.returns-in-Some-clause-seen
returns-in-Some-clause-seen c =
    let same = same_station c.in-Some.station.now c.args.place.now.station (sym c.eq.ensures ∙ c.if-eq.true) in
    seen-at c.args.index.now c.args.place.now.slot c.in-Some.station.now c.in-Some.field-0-1.now
    (sym c.in-Some.ensures.entry)
    ∙ sym c.in-Some.ensures.value ∙ ap (get is_same c.args.index.now) same
