use Rattle.std.proofs.Common.{◌≡◌, ◌<◌, ◌+◌, ◌^◌, ◌∷◌, ◌++◌, [], Some, not, cond, length, refl, sym, ap, ◌∙◌, subst}
use Rattle.std.proofs.Common.{arith, length-append, ℕ, List, None}
use Rattle.std.proofs.lemmas.List.{length-map}
use Rattle.std.specs.List.{filter}
use Rattle.std.specs.Option.{option_to_list}
use Rattle.pb_fdb.proofs.TurnLemmas.{turned-as, turned-gone, turned-last, gone-entries, last-entries, goes-at}
use Rattle.pb_fdb.proofs.TurnLemmas.{stays-at}
use Rattle.indexmap.specs.IndexMap.{get, index_map_len}
use Rattle.pb_fdb.specs.declared.station.LastSeen.{LastSeen}
use Rattle.pb_fdb.specs.Journals.{is_same, is_of, entry_of, entries_from, place_after, stations, stays, HasEach}
use Rattle.pb_fdb.specs.Journals.{HasTurned, IsIndexWith, Index}
use Rattle.pb_fdb.proofs.LogLemmas.{each-with, each-without, one-less}
use Rattle.pb_fdb.proofs.SlotLemmas.{stations-put, taken-at}
use Rattle.pb_fdb.proofs.journal.turn.Goals.{Else-seen-at, After-swap_remove_index, After-push_back_reserved}
use Rattle.pb_fdb.specs.declared.station.Station.{Station}
use Rattle.pb_fdb.proofs.journal.turn.Goals as goal

-- the first place of a log counts: its station was last seen there
record First : Type 0 where
  f : Index
  at : ℕ
  s : Station
  seen : LastSeen
  log : List Station
  each : HasEach f (entries_from f at (s ∷ log))
  known : f s ≡ Some seen
  here : at ≡ seen.at

-- the log is its first place and the remaining ones
whole : (c : Else-seen-at) → stations c.args.log.now.items ≡ c.in-Some.place.station
    ∷ stations c.pop_front.new.self.items
whole c = ap stations (c.pop_front.ensures.items ∙ ap (λ o. option_to_list o ++ c.pop_front.new.self.items)
    c.in-Some.is)

abbrev first-of : Else-seen-at → First
first-of c = record {
  f = get is_same c.args.index.now;
  at = c.args.first.now;
  s = c.in-Some.place.station;
  seen = c.index-seen.result.now;
  log = stations c.pop_front.new.self.items;
  each = subst (λ xs. HasEach (get is_same c.args.index.now)
      (entries_from (get is_same c.args.index.now) c.args.first.now xs)) (whole c) c.requires.each;
  known = sym c.in-Some-slot_of.ensures.seen ∙ c.index-seen.ensures;
  here = sym c.if-seen-at.false;
}

-- if the entry is removed, the index loses its station only
gone : (c : After-swap_remove_index) → IsIndexWith c.in-Some.place.station None (get is_same c.args.index.now)
    (get is_same c.swap_remove_index.new.self)
    × (index_map_len c.swap_remove_index.new.self + 1 ≡ index_map_len c.args.index.now)
gone c =
    let taken = taken-at c.args.index.now c.in-Some-slot_of.slot c.swap_remove_index.new.self
    c.in-Some.place.station c.swap_remove_index.result c.swap_remove_index.ensures.entry
    c.in-Some-slot_of.ensures.station c.swap_remove_index.ensures.updates in (
      taken.0,
      ap (λ b. index_map_len c.swap_remove_index.new.self + cond b 1 0) (sym taken.1)
          ∙ c.swap_remove_index.ensures.len,
    )

pub returns-then-eq-clause-turned : goal.returns-then-eq-clause-turned
returns-then-eq-clause-turned c s rest is =
    let at = (goal.at.returns-then-eq-clause-turned c).Else-seen-at in
    let p = first-of at in
    let g = get is_same c.swap_remove_index.new.self in
    let goes = goes-at c.args.port (entry_of p.s p.seen) (sym c.eq.ensures ∙ c.if-eq.true) in
    turned-as (stays c.args.port) p.f g p.at p.s s p.log rest p.log
    (turned-gone (stays c.args.port) p.f g p.at p.s p.seen p.log p.each p.known p.here goes (gone c).0)
    (sym (whole at) ∙ is)

pub returns-then-eq-clause-each : goal.returns-then-eq-clause-each
returns-then-eq-clause-each c =
    let p = first-of (goal.at.returns-then-eq-clause-each c).Else-seen-at in
    let g = get is_same c.swap_remove_index.new.self in
    subst (HasEach g) (sym (gone-entries p.f g p.at p.s p.seen p.log p.each p.known p.here (gone c).0))
    (each-without p.f g p.s (gone c).0 (entries_from p.f p.at (p.s ∷ p.log)) p.each)

pub returns-then-eq-clause-count : goal.returns-then-eq-clause-count
returns-then-eq-clause-count c counted =
    let at = (goal.at.returns-then-eq-clause-count c).Else-seen-at in
    let p = first-of at in
    let entries = ap length (gone-entries p.f (get is_same c.swap_remove_index.new.self) p.at p.s p.seen p.log p.each
    p.known p.here (gone c).0) in
    let less = one-less p.f p.s p.seen (entries_from p.f p.at (p.s ∷ p.log)) p.each p.known in
    let before = sym (ap (λ xs. length (entries_from p.f p.at xs)) (whole at)) ∙ counted in
    let after = (gone c).1 in
    omega (arith, entries, less, before, after)

-- where the station is last seen if its place moves to the end
abbrev seen-last : After-push_back_reserved → LastSeen
seen-last c = record {
  at = place_after (place_after c.args.first.now 1) c.len.result;
  learnt = c.index-seen.result.now.learnt;
  port = c.index-seen.result.now.port;
}

-- if the entry stays, its place moves to the end
record GoesLast (f g : Index) (at : ℕ) (s : Station) (new : LastSeen) (log after : List Station) : Type 0 where
  noted : IsIndexWith s (Some new) f g
  put : after ≡ log ++ s ∷ []
  behind : new.at ≡ place_after (place_after at 1) (length log)
  fits : length log < 2 ^ 64

goes-last : (c : After-push_back_reserved) → GoesLast (get is_same c.args.index.now) (get is_same c.note.new.index)
    c.args.first.now c.in-Some.place.station (seen-last c) (stations c.pop_front.new.self.items)
    (stations c.push_back_reserved.new.self.items)
goes-last c =
    let count = length-map c.pop_front.new.self.items (λ p. p.station) in
    record {
      noted = c.note.ensures.noted c.in-Some.place.station c.in-Some-slot_of.ensures.station;
      put = stations-put c.pop_front.new.self.items c.push_back_reserved.new.self.items c.new.result
          c.in-Some.place.station c.push_back_reserved.ensures.items c.new.ensures.station;
      behind = ap (place_after (place_after c.args.first.now 1))
          (c.len.ensures ∙ c.pop_front.new.self.ok.0 ∙ sym count);
      fits = omega (
        arith,
        count,
        c.pop_front.new.self.small.0,
        c.pop_front.new.self.small.1,
        c.pop_front.new.self.ok.0,
      );
    }

-- the entries are then those of the other stations, with its own last
last-all : (c : After-push_back_reserved) (p : First) → GoesLast p.f (get is_same c.note.new.index) p.at p.s
    (seen-last c) p.log (stations c.push_back_reserved.new.self.items)
    → entries_from (get is_same c.note.new.index) (place_after p.at 1) (stations c.push_back_reserved.new.self.items)
    ≡ filter (λ e. not (is_of p.s e)) (entries_from p.f p.at (p.s ∷ p.log)) ++ entry_of p.s (seen-last c) ∷ []
last-all c p l = ap (entries_from (get is_same c.note.new.index) (place_after p.at 1)) l.put
    ∙ last-entries p.f (get is_same c.note.new.index) p.at p.s p.seen (seen-last c) p.log p.known p.here l.noted
    l.behind l.fits

pub returns-clause-turned : goal.returns-clause-turned
returns-clause-turned c s rest is =
    let at = (goal.at.returns-clause-turned c).Else-seen-at in
    let p = first-of at in
    let l = goes-last c in
    let g = get is_same c.note.new.index in
    let stay = stays-at c.args.port (entry_of p.s p.seen) (sym c.eq.ensures ∙ c.if-eq.false) in
    subst (HasTurned (stays c.args.port) p.f g p.at s rest) (sym l.put)
    (turned-as (stays c.args.port) p.f g p.at p.s s p.log rest (p.log ++ p.s ∷ [])
    (turned-last (stays c.args.port) p.f g p.at p.s p.seen (seen-last c) p.log p.each p.known p.here stay l.noted refl
    l.behind l.fits)
    (sym (whole at) ∙ is))

pub returns-clause-each : goal.returns-clause-each
returns-clause-each c =
    let p = first-of (goal.at.returns-clause-each c).Else-seen-at in
    let l = goes-last c in
    subst (HasEach (get is_same c.note.new.index)) (sym (last-all c p l))
    (each-with p.f (get is_same c.note.new.index) p.s (seen-last c) l.noted
    (entries_from p.f p.at (p.s ∷ p.log)) p.each)

pub returns-clause-count : goal.returns-clause-count
returns-clause-count c counted =
    let at = (goal.at.returns-clause-count c).Else-seen-at in
    let p = first-of at in
    let all = entries_from p.f p.at (p.s ∷ p.log) in
    omega (
      arith,
      ap length (last-all c p (goes-last c)),
      length-append (filter (λ e. not (is_of p.s e)) all) (entry_of p.s (seen-last c) ∷ []),
      one-less p.f p.s p.seen all p.each p.known,
      sym (ap (λ xs. length (entries_from p.f p.at xs)) (whole at)) ∙ counted,
      c.note.ensures.len,
    )
