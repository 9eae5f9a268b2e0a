use Rattle.std.proofs.Common.{◌≡◌, ◌≤◌, ◌==◌, ◌++◌, ◌∷◌, [], ℕ, None, Some, false, true, nat_le, length, ap, sym, ◌∙◌}
use Rattle.std.proofs.Common.{subst, refl, arith, Bool}
use Rattle.std.proofs.lemmas.Bool.Decides.{nat_tests}
use Rattle.pb_frame.specs.Frames.{is_group}
use Rattle.pb_frame.specs.Stations.{is_fresh, after}
use Rattle.pb_frame.specs.Stations.News.{Seen}
use Rattle.pb_frame.specs.declared.learnt.Learnt.TheVariants.{New, Kept, Moved}
use Rattle.pb_fdb.specs.declared.entry.Entry.{Entry}
use Rattle.pb_fdb.specs.Entries.{sighting_of, table_of, without_station, fresh_entries, entries_with_room, IsKept}
use Rattle.pb_fdb.specs.Tables.{Table, where_in, is_full, sighting_at, learnt_table}
use Rattle.pb_fdb.proofs.EntryLemmas.{filter_fits, sightings-anew, with_room-table_of}
use Rattle.pb_fdb.proofs.LearnLemmas.{full-table_of, where-none, where-old, where-fresh, old-room, kept-renewed}
use Rattle.pb_fdb.proofs.LearnLemmas.{swept-renewed, kept-swept}
use Rattle.pb_fdb.proofs.OrderLemmas.{IsKept-filter, IsKept-later, IsKept-push, IsKept-room, room-left}
use Rattle.pb_fdb.proofs.table.Fdb.learn.Goals.{After-is_full, In-Some}
use Rattle.pb_fdb.proofs.table.Fdb.learn.Goals as goal

-- the result for a station without an entry
none-told : (c : After-is_full) (full : Bool) → c.is_full.result ≡ full
    → (is_group c.args.mac.0 ≡ false)
    × (where_in (table_of c.self.inside.limit c.self.inside.ageing c.self.inside.clock c.self.inside.journal)
    c.args.now c.args.vid c.args.mac.0 ≡ None)
    × (is_full (table_of c.self.inside.limit c.self.inside.ageing c.self.inside.clock c.self.inside.journal)
    c.args.now ≡ full)
none-told c full is =
    let f = c.self.inside in
    let g : is_group c.args.mac.0 ≡ false = grind (arith, nat_tests) in (
      g,
      where-none f.limit f.ageing f.clock c.args.now c.args.vid c.args.mac.0 f.journal c.in_default.ensures.old,
      full-table_of f.limit f.ageing f.clock c.args.now f.journal
          ∙ ap (λ j. nat_le f.limit (length (fresh_entries f.ageing c.args.now j))) (sym c.in_default.ensures.absent)
          ∙ sym c.is_full.ensures.full ∙ is,
    )

-- the invariant of the table for a station without an entry
none-kept : (c : After-is_full) → IsKept c.self.inside.limit c.self.inside.ageing c.args.now c.is_full.new.journal
none-kept c =
    let f = c.self.inside in
    subst (IsKept f.limit f.ageing c.args.now) (sym (c.is_full.ensures.entries ∙ c.in_default.ensures.absent))
    (IsKept-later f.limit f.ageing f.clock c.args.now f.journal
    (subst (λ (t : Table). t.clock ≤ c.args.now) (sym c.self.view_is) c.requires) c.self.invariant)

-- the invariant of the table after the station's entry was renewed
renewed-kept : (c : In-Some) → IsKept c.self.inside.limit c.self.inside.ageing c.args.now c.renew.new.self
renewed-kept c =
    let f = c.self.inside in
    let e : Entry = record { vid = c.args.vid; mac = c.args.mac; port = c.args.port; learnt = c.args.now } in
    kept-renewed f.limit f.ageing f.clock e f.journal c.renew.new.self c.in-Some.old
    (subst (λ (t : Table). t.clock ≤ c.args.now) (sym c.self.view_is) c.requires) c.self.invariant
    c.in-Some.ensures.old c.in-Some.ensures.renewed

pub returns-then-is_full-clause-answer : goal.returns-then-is_full-clause-answer
returns-then-is_full-clause-answer c =
    subst (λ (t : Table). (is_group c.args.mac.0 ≡ false) × (where_in t c.args.now c.args.vid c.args.mac.0 ≡ None)
    × (is_full t c.args.now ≡ true)) c.self.view_is
    (none-told (goal.at.returns-then-is_full-clause-answer c).After-is_full true c.if-is_full.true)

pub add-requires-clause-before : goal.add-requires-clause-before
add-requires-clause-before c = (none-kept (goal.at.add-requires-clause-before c).After-is_full).before

pub invariant_of-self-in_default-add : goal.invariant_of-self-in_default-add
invariant_of-self-in_default-add c =
    subst (IsKept c.self.inside.limit c.self.inside.ageing c.args.now) (sym c.in_default-add.ensures.err)
    (none-kept (goal.at.invariant_of-self-in_default-add c).After-is_full)

pub returns-in_default-add-clause-answer : goal.returns-in_default-add-clause-answer
returns-in_default-add-clause-answer c =
    subst (λ (t : Table). (is_group c.args.mac.0 ≡ false) × (where_in t c.args.now c.args.vid c.args.mac.0 ≡ None)
    × (is_full t c.args.now ≡ false)) c.self.view_is
    (none-told (goal.at.returns-in_default-add-clause-answer c).After-is_full false c.if-is_full.false)

pub invariant_of-self-in_default : goal.invariant_of-self-in_default
invariant_of-self-in_default c =
    let f = c.self.inside in
    let now = c.args.now in
    let e : Entry = record { vid = c.args.vid; mac = c.args.mac; port = c.args.port; learnt = now } in
    let j = c.is_full.new.journal in
    let kept = none-kept (goal.at.invariant_of-self-in_default c).After-is_full in
    let room = room-left f.limit f.ageing now j
    (ap (λ j. nat_le f.limit (length (fresh_entries f.ageing now j))) c.is_full.ensures.entries
    ∙ sym c.is_full.ensures.full ∙ c.if-is_full.false) in
    subst (IsKept f.limit f.ageing now) (sym c.in-Ok.ensures.ok)
    (IsKept-push f.limit f.ageing (without_station e (entries_with_room f.limit f.ageing now j)) e
    (IsKept-filter f.limit f.ageing now _ (entries_with_room f.limit f.ageing now j)
    (IsKept-room f.limit f.ageing now j kept))
    (filter_fits _ (entries_with_room f.limit f.ageing now j) f.limit room))

pub returns-in_default-clause-answer : goal.returns-in_default-clause-answer
returns-in_default-clause-answer c =
    subst (λ (t : Table). (is_group c.args.mac.0 ≡ false) × (where_in t c.args.now c.args.vid c.args.mac.0 ≡ None)
    × (is_full t c.args.now ≡ false)) c.self.view_is
    (none-told (goal.at.returns-in_default-clause-answer c).After-is_full false c.if-is_full.false)

pub returns-in_default-clause-table : goal.returns-in_default-clause-table
returns-in_default-clause-table c =
    let f = c.self.inside in
    let now = c.args.now in
    let e : Entry = record { vid = c.args.vid; mac = c.args.mac; port = c.args.port; learnt = now } in
    let s = sighting_at c.args.vid c.args.mac.0 c.args.port now in
    let anew = c.in-Ok.ensures.ok ∙ ap (λ j. without_station e (entries_with_room f.limit f.ageing now j) ++ e ∷ [])
    (c.is_full.ensures.entries ∙ c.in_default.ensures.absent) in
    ap (λ zs. record (table_of f.limit f.ageing now []) { sightings = zs }) (
    sightings-anew s (entries_with_room f.limit f.ageing now f.journal) _ _ refl anew
    ∙ ap (λ zs. after zs (Seen s)) (sym (with_room-table_of f.limit f.ageing f.clock now f.journal))
    )
    ∙ ap (λ t. learnt_table t s New) c.self.view_is

pub sweep-requires : goal.sweep-requires
sweep-requires c = (renewed-kept (goal.at.sweep-requires c).In-Some).order

pub invariant_of-self-then-not-is_fresh : goal.invariant_of-self-then-not-is_fresh
invariant_of-self-then-not-is_fresh c =
    subst (IsKept c.self.inside.limit c.self.inside.ageing c.args.now) (sym c.sweep.ensures)
    (kept-swept _ c.self.inside.limit c.self.inside.ageing c.args.now c.renew.new.self
    (renewed-kept (goal.at.invariant_of-self-then-not-is_fresh c).In-Some))

pub returns-then-not-is_fresh-clause-answer : goal.returns-then-not-is_fresh-clause-answer
returns-then-not-is_fresh-clause-answer c =
    let f = c.self.inside in
    let now = c.args.now in
    let g : is_group c.args.mac.0 ≡ false = grind (arith, nat_tests) in
    let stale : is_fresh f.ageing now (sighting_of c.in-Some.old) ≡ false = sym c.is_fresh.ensures
    ∙ c.if-not-is_fresh.true in
    subst (λ (t : Table). (is_group c.args.mac.0 ≡ false) × (where_in t now c.args.vid c.args.mac.0 ≡ None)
    × (is_full t now ≡ false)) c.self.view_is (
      g,
      where-old f.limit f.ageing f.clock now c.args.vid c.args.mac.0 f.journal c.in-Some.old c.in-Some.ensures.old
          stale,
      full-table_of f.limit f.ageing f.clock now f.journal ∙ old-room f.limit f.ageing now _ f.journal c.in-Some.old
          c.self.invariant.fits c.in-Some.ensures.old stale,
    )

pub returns-then-not-is_fresh-clause-table : goal.returns-then-not-is_fresh-clause-table
returns-then-not-is_fresh-clause-table c =
    let f = c.self.inside in
    let now = c.args.now in
    let e : Entry = record { vid = c.args.vid; mac = c.args.mac; port = c.args.port; learnt = now } in
    let s = sighting_at c.args.vid c.args.mac.0 c.args.port now in
    let anew = c.sweep.ensures ∙ swept-renewed _ f.limit f.ageing e f.journal c.renew.new.self
    (ap (nat_le f.limit) c.len.ensures) c.self.invariant.ageing_is c.in-Some.ensures.renewed in
    ap (λ zs. record (table_of f.limit f.ageing now []) { sightings = zs }) (
    sightings-anew s (entries_with_room f.limit f.ageing now f.journal) _ _ refl anew
    ∙ ap (λ zs. after zs (Seen s)) (sym (with_room-table_of f.limit f.ageing f.clock now f.journal))
    )
    ∙ ap (λ t. learnt_table t s New) c.self.view_is

pub invariant_of-self-else-not-is_fresh : goal.invariant_of-self-else-not-is_fresh
invariant_of-self-else-not-is_fresh c = renewed-kept (goal.at.invariant_of-self-else-not-is_fresh c).In-Some

pub returns-then-old-port-clause-answer : goal.returns-then-old-port-clause-answer
returns-then-old-port-clause-answer c =
    let f = c.self.inside in
    let now = c.args.now in
    let g : is_group c.args.mac.0 ≡ false = grind (arith, nat_tests) in
    let fresh : is_fresh f.ageing now (sighting_of c.in-Some.old) ≡ true = sym c.is_fresh.ensures
    ∙ c.if-not-is_fresh.false in
    subst (λ (t : Table). (is_group c.args.mac.0 ≡ false)
    × (where_in t now c.args.vid c.args.mac.0 ≡ Some c.args.port)) c.self.view_is (
      g,
      where-fresh f.limit f.ageing f.clock now c.args.vid c.args.mac.0 f.journal c.in-Some.old c.in-Some.ensures.old
          fresh ∙ ap (λ p. Some p) c.if-old-port.true,
    )

pub returns-then-old-port-clause-table : goal.returns-then-old-port-clause-table
returns-then-old-port-clause-table c =
    let f = c.self.inside in
    let s = sighting_at c.args.vid c.args.mac.0 c.args.port c.args.now in
    ap (λ zs. record (table_of f.limit f.ageing c.args.now []) { sightings = zs })
    (sightings-anew s f.journal _ _ refl c.in-Some.ensures.renewed)
    ∙ ap (λ t. learnt_table t s Kept) c.self.view_is

pub returns-else-old-port-clause-answer : goal.returns-else-old-port-clause-answer
returns-else-old-port-clause-answer c =
    let f = c.self.inside in
    let now = c.args.now in
    let g : is_group c.args.mac.0 ≡ false = grind (arith, nat_tests) in
    let fresh : is_fresh f.ageing now (sighting_of c.in-Some.old) ≡ true = sym c.is_fresh.ensures
    ∙ c.if-not-is_fresh.false in
    let other : (c.in-Some.old.port == c.args.port) ≡ false = grind (arith, nat_tests) in
    subst (λ (t : Table). (is_group c.args.mac.0 ≡ false)
    × ((x : ℕ) × (where_in t now c.args.vid c.args.mac.0 ≡ Some x) × ((x == c.args.port) ≡ false))) c.self.view_is (
      g,
      (
        c.in-Some.old.port,
        where-fresh f.limit f.ageing f.clock now c.args.vid c.args.mac.0 f.journal c.in-Some.old
            c.in-Some.ensures.old fresh,
        other,
      ),
    )

pub returns-else-old-port-clause-table : goal.returns-else-old-port-clause-table
returns-else-old-port-clause-table c =
    let f = c.self.inside in
    let s = sighting_at c.args.vid c.args.mac.0 c.args.port c.args.now in
    ap (λ zs. record (table_of f.limit f.ageing c.args.now []) { sightings = zs })
    (sightings-anew s f.journal _ _ refl c.in-Some.ensures.renewed)
    ∙ ap (λ t. learnt_table t s Moved) c.self.view_is
