use Rattle.std.proofs.Common.{◌≡◌, ℕ, ◌<◌, ◌^◌, ◌∷◌, ◌++◌, [], Some, None, not, is_some, cond, length, sym, ap, ◌∙◌}
use Rattle.std.proofs.Common.{subst, arith}
use Rattle.std.proofs.lemmas.List.{length-map}
use Rattle.std.specs.List.{filter}
use Rattle.std.specs.Option.{option_map, option_to_list}
use Rattle.indexmap.specs.IndexMap.{get, keys}
use Rattle.pb_frame.specs.Stations.{is_sighted}
use Rattle.pb_frame.proofs.Things.{none_from}
use Rattle.pb_fdb.specs.declared.station.LastSeen.{LastSeen}
use Rattle.pb_fdb.specs.declared.station.Station.{Station}
use Rattle.pb_fdb.specs.Entries.{sighting_of}
use Rattle.pb_fdb.specs.Journals.{is_same, is_of, entry_of, entries_from, place_after, stations, HasEach, IsIndexWith}
use Rattle.pb_fdb.proofs.LogLemmas.{found-sighted, entries-put, each-with, one-more}
use Rattle.pb_fdb.proofs.SlotLemmas.{found-station, stations-put}
use Rattle.pb_fdb.proofs.journal.Journal.renew.Goals.{After-push_back_reserved}
use Rattle.pb_fdb.proofs.journal.Journal.renew.Goals as goal

pub returns-in_err-slot-clause-old : goal.returns-in_err-slot-clause-old
returns-in_err-slot-clause-old c =
    let f = get is_same c.free_place.new.index in
    let key : Station = record { vid = c.args.new.vid; mac = c.args.new.mac } in
    let none : f key ≡ None = none_from (f key) (sym c.get_index_of.ensures.found ∙ ap is_some c.in_err-slot.was) in
    ap (filter (λ e. is_sighted c.args.new.vid c.args.new.mac.0 (sighting_of e)))
    (sym (c.free_place.ensures.entries ∙ c.self.view_is))
    ∙ found-sighted f c.free_place.new.first (stations c.free_place.new.log.items) c.free_place.ensures.each
    c.args.new.vid c.args.new.mac
    ∙ ap (λ o. option_to_list (option_map (entry_of key) o)) none ∙ ap option_to_list (sym c.from_residual.ensures)

pub returns-clause-old : goal.returns-clause-old
returns-clause-old c =
    let f = get is_same c.free_place.new.index in
    let key : Station = record { vid = c.args.new.vid; mac = c.args.new.mac } in
    let found : f key ≡ Some c.note-old.result = sym c.in_ok-slot.ensures.value ∙ c.note-old.ensures.old in
    ap (filter (λ e. is_sighted c.args.new.vid c.args.new.mac.0 (sighting_of e)))
    (sym (c.free_place.ensures.entries ∙ c.self.view_is))
    ∙ found-sighted f c.free_place.new.first (stations c.free_place.new.log.items) c.free_place.ensures.each
    c.args.new.vid c.args.new.mac
    ∙ ap (λ o. option_to_list (option_map (entry_of key) o)) found

-- where the station is last seen after the call
abbrev seen-now : After-push_back_reserved → LastSeen
seen-now c = record {
  at = place_after c.free_place.new.first c.len.result;
  learnt = c.args.new.learnt;
  port = c.args.new.port;
}

-- the index has the new value at this station, and the others are unchanged
now-noted : (c : After-push_back_reserved)
    → IsIndexWith (record { vid = c.args.new.vid; mac = c.args.new.mac }) (Some (seen-now c))
    (get is_same c.free_place.new.index) (get is_same c.note-old.new.index)
now-noted c =
    let key : Station = record { vid = c.args.new.vid; mac = c.args.new.mac } in
    c.note-old.ensures.noted key
    (found-station (keys c.free_place.new.index) key (Some c.in_ok-slot.slot) c.in_ok-slot.ensures.index)

-- the new entry is last, after those of the other stations
now-last : (c : After-push_back_reserved)
    → entries_from (get is_same c.note-old.new.index) c.free_place.new.first
    (stations c.push_back_reserved.new.self.items)
    ≡ filter (λ e. not (is_of (record { vid = c.args.new.vid; mac = c.args.new.mac }) e))
    (entries_from (get is_same c.free_place.new.index) c.free_place.new.first (stations c.free_place.new.log.items))
    ++ c.args.new ∷ []
now-last c =
    let key : Station = record { vid = c.args.new.vid; mac = c.args.new.mac } in
    let at = c.free_place.new.first in
    let log = c.free_place.new.log in
    let count = length-map log.items (λ p. p.station) in
    let below : at < 2 ^ 64 = omega arith in
    let fits : length (stations log.items) < 2 ^ 64 = omega (arith, count, log.small.0, log.small.1, log.ok.0) in
    ap (entries_from (get is_same c.note-old.new.index) at) (stations-put log.items
    c.push_back_reserved.new.self.items c.new.result key c.push_back_reserved.ensures.items c.new.ensures.station)
    ∙ entries-put (get is_same c.free_place.new.index) (get is_same c.note-old.new.index) key (seen-now c) at
    (stations log.items) (now-noted c) below fits (ap (place_after at) (c.len.ensures ∙ log.ok.0 ∙ sym count))

pub invariant_of-self-2 : goal.invariant_of-self-2
invariant_of-self-2 c =
    let f = get is_same c.free_place.new.index in
    let key : Station = record { vid = c.args.new.vid; mac = c.args.new.mac } in
    let xs = stations c.free_place.new.log.items in
    let here = (goal.at.invariant_of-self-2 c).After-push_back_reserved in
    let found : f key ≡ Some c.note-old.result = sym c.in_ok-slot.ensures.value ∙ c.note-old.ensures.old in
    record {
      each = subst (HasEach (get is_same c.note-old.new.index)) (sym (now-last here))
          (each-with f (get is_same c.note-old.new.index) key (seen-now here) (now-noted here)
          (entries_from f c.free_place.new.first xs) c.free_place.ensures.each);
      counted = omega (
        arith,
        ap length (now-last here),
        one-more f c.free_place.new.first xs key c.args.new c.free_place.ensures.each,
        ap {B = ℕ} (λ o. cond (is_some o) 0 1) found,
        c.note-old.ensures.len,
        c.free_place.ensures.len,
        ap length c.free_place.ensures.entries,
        c.self.invariant.counted,
      );
      roomy = omega (
        arith,
        c.note-old.ensures.len,
        c.free_place.ensures.len,
        c.self.invariant.roomy,
        c.free_place.ensures.capacity,
        c.push_back_reserved.ensures.capacity,
      );
    }

pub returns-clause-renewed : goal.returns-clause-renewed
returns-clause-renewed c =
    now-last (goal.at.returns-clause-renewed c).After-push_back_reserved
    ∙ ap (λ es. filter (λ e. not (is_of (record { vid = c.args.new.vid; mac = c.args.new.mac }) e)) es
    ++ c.args.new ∷ []) (c.free_place.ensures.entries ∙ c.self.view_is)
