use Rattle.std.proofs.Common.{◌≡◌, Some, None, sym, ap, ◌∙◌}
use Rattle.std.specs.List.{filter}
use Rattle.std.specs.Option.{option_map, option_to_list, option_copied}
use Rattle.indexmap.specs.IndexMap.{get}
use Rattle.pb_frame.specs.Stations.{is_sighted}
use Rattle.pb_fdb.specs.declared.station.Station.{Station}
use Rattle.pb_fdb.specs.Entries.{sighting_of}
use Rattle.pb_fdb.specs.Journals.{is_same, entry_of, stations}
use Rattle.pb_fdb.proofs.LogLemmas.{found-sighted}
use Rattle.pb_fdb.proofs.journal.Journal.find.Goals as goal

pub returns-in_err-seen : goal.returns-in_err-seen
returns-in_err-seen c =
    let f = get is_same c.self.inside.index in
    let key : Station = record { vid = c.args.vid; mac = c.args.mac } in
    let none : f key ≡ None = sym c.get.ensures.value ∙ ap option_copied c.in_err-seen.was in
    ap (filter (λ e. is_sighted c.args.vid c.args.mac.0 (sighting_of e))) (sym c.self.view_is)
    ∙ found-sighted f c.self.inside.first (stations c.self.inside.log.items) c.self.invariant.each c.args.vid c.args.mac
    ∙ ap (λ o. option_to_list (option_map (entry_of key) o)) none ∙ ap option_to_list (sym c.from_residual.ensures)

pub returns : goal.returns
returns c =
    let f = get is_same c.self.inside.index in
    let key : Station = record { vid = c.args.vid; mac = c.args.mac } in
    let found : f key ≡ Some c.in_ok-seen.seen.now = sym c.get.ensures.value ∙ ap option_copied c.in_ok-seen.was in
    ap (filter (λ e. is_sighted c.args.vid c.args.mac.0 (sighting_of e))) (sym c.self.view_is)
    ∙ found-sighted f c.self.inside.first (stations c.self.inside.log.items) c.self.invariant.each c.args.vid c.args.mac
    ∙ ap (λ o. option_to_list (option_map (entry_of key) o)) found
