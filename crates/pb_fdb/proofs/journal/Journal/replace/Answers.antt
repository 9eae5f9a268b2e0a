use Rattle.std.proofs.Common.{ℕ, ◌<◌, ◌^◌, ◌∷◌, ◌++◌, [], Some, not, is_some, cond, length, sym, ap, ◌∙◌, subst, arith}
use Rattle.std.proofs.lemmas.List.{length-map}
use Rattle.std.specs.List.{filter}
use Rattle.indexmap.specs.IndexMap.{get}
use Rattle.pb_fdb.specs.declared.station.LastSeen.{LastSeen}
use Rattle.pb_fdb.specs.declared.station.Station.{Station}
use Rattle.pb_fdb.specs.Journals.{is_same, is_of, entry_of, entries_from, place_after, stations, HasEach, IsIndexWith}
use Rattle.pb_fdb.proofs.LogLemmas.{entries-put, each-with, one-more, one_at_most}
use Rattle.pb_fdb.proofs.SlotLemmas.{stations-put}
use Rattle.pb_fdb.proofs.journal.Journal.replace.Goals as goal

pub invariant_of-self-2 : goal.invariant_of-self-2
invariant_of-self-2 c =
    let f = get is_same c.self.inside.index in
    let g = get is_same c.insert_full.new.self in
    let key : Station = record { vid = c.args.entry.vid; mac = c.args.entry.mac } in
    let at = c.self.inside.first in
    let log = c.make_room.new.log in
    let xs = stations log.items in
    let count = length-map log.items (λ p. p.station) in
    let put = stations-put log.items c.push_back_reserved.new.self.items c.new.result key
    c.push_back_reserved.ensures.items c.new.ensures.station in
    let new : LastSeen = record {
      at = place_after at c.len-2.result;
      learnt = c.args.entry.learnt;
      port = c.args.entry.port;
    } in
    let each = subst (λ xs. HasEach f (entries_from f at xs)) (sym (ap stations c.make_room.ensures.items))
    c.self.invariant.each in
    let noted : IsIndexWith key (Some new) f g = c.in_ok-slot.ensures.updates.0 in
    let below : at < 2 ^ 64 = omega (arith, c.self.ranges) in
    let fits : length xs < 2 ^ 64 = omega (arith, count, log.small.0, log.small.1, log.ok.0) in
    let entries = ap (entries_from g at) put ∙ entries-put f g key new at xs noted below fits
    (ap (place_after at) (c.len-2.ensures ∙ log.ok.0 ∙ sym count)) in
    let before = ap (λ ps. length (entries_from f at (stations ps))) c.make_room.ensures.items
    ∙ c.self.invariant.counted in
    let more = one-more f at xs key (entry_of key new) each in
    let old = ap {B = ℕ} (λ o. cond (is_some o) 0 1) c.in_ok-slot.ensures.old in
    record {
      each = subst (HasEach g) (sym entries) (each-with f g key new noted (entries_from f at xs) each);
      counted = omega (arith, ap length entries, more, before, old, c.in_ok-slot.ensures.len);
      roomy = omega (
        arith,
        c.in_ok-make_room.ensures.room,
        c.len.ensures.len,
        ap length entries,
        more,
        before,
        old,
        one_at_most c.in_ok-slot.field-0-1,
        c.in_ok-slot.ensures.len,
        c.push_back_reserved.ensures.capacity,
      );
    }

pub returns-clause-ok : goal.returns-clause-ok
returns-clause-ok c =
    let f = get is_same c.self.inside.index in
    let g = get is_same c.insert_full.new.self in
    let key : Station = record { vid = c.args.entry.vid; mac = c.args.entry.mac } in
    let at = c.self.inside.first in
    let log = c.make_room.new.log in
    let xs = stations log.items in
    let count = length-map log.items (λ p. p.station) in
    let put = stations-put log.items c.push_back_reserved.new.self.items c.new.result key
    c.push_back_reserved.ensures.items c.new.ensures.station in
    let new : LastSeen = record {
      at = place_after at c.len-2.result;
      learnt = c.args.entry.learnt;
      port = c.args.entry.port;
    } in
    let noted : IsIndexWith key (Some new) f g = c.in_ok-slot.ensures.updates.0 in
    let below : at < 2 ^ 64 = omega (arith, c.self.ranges) in
    let fits : length xs < 2 ^ 64 = omega (arith, count, log.small.0, log.small.1, log.ok.0) in
    ap (entries_from g at) put ∙ entries-put f g key new at xs noted below fits
    (ap (place_after at) (c.len-2.ensures ∙ log.ok.0 ∙ sym count))
    ∙ ap (λ ps. filter (λ e. not (is_of key e)) (entries_from f at (stations ps)) ++ c.args.entry ∷ [])
    c.make_room.ensures.items
    ∙ ap (λ es. filter (λ e. not (is_of key e)) es ++ c.args.entry ∷ []) c.self.view_is
