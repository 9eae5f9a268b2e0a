-- The live sightings of a table are those in force by all events: the law of `law`.
use Rattle.std.proofs.Common.{◌≡◌, ℕ, ◌-◌, ◌<◌, ◌≤◌, Bool, true, false, cond, nat_lt, nat_le, not, ◌&&◌, List, []}
use Rattle.std.proofs.Common.{◌∷◌, ◌++◌, length, refl, sym, ap, ◌∙◌, append_assoc, append-nil, arith}
use Rattle.std.proofs.Math.Bool.{and_comm}
use Rattle.std.proofs.lemmas.Bool.Decides.{nat_tests}
use Rattle.std.specs.List.{filter}
use Rattle.pb_frame.proofs.Lists.{filter-append, filter-twice}
use Rattle.pb_frame.proofs.StationLaws.{table_tells_what_stands}
use Rattle.pb_frame.specs.Stations.{Sighting, News, overrides, is_fresh, standing, after, after_all}
use Rattle.pb_frame.specs.Stations.News.{Seen, Flushed}
use Rattle.pb_frame.specs.declared.learnt.Learnt.TheVariants.{New, Kept, Moved, Full, Group, Memory}
use Rattle.pb_fdb.specs.Laws.{Deed, news_of, done, IsInTime, Leads, TellsWhatStands, TablesTellWhatStands}
use Rattle.pb_fdb.specs.Laws.Deed.{Learns, Flushes, Expires}
use Rattle.pb_fdb.specs.Tables.{Table, live, with_room}

-- a conjunction with one test twice
and-twice : (a b : Bool) → (a && (b && a)) ≡ (b && a)
and-twice true b = refl
and-twice false b = and_comm false b

-- a filter after an event is the event after the filter
passed-after : (p : Sighting → Bool) (table : List Sighting) (n : News)
    → filter p (after table n) ≡ filter p (after (filter p table) n)
passed-after p table n =
    elim n as (λ n. filter p (after table n) ≡ filter p (after (filter p table) n)) [
      | Seen s ↦ filter-append p (filter (λ t. not (overrides t (Seen s))) table) (s ∷ [])
          ∙ ap (λ zs. zs ++ filter p (s ∷ [])) (kept (Seen s))
          ∙ sym (filter-append p (filter (λ t. not (overrides t (Seen s))) (filter p table)) (s ∷ []))
      | Flushed port ↦ kept (Flushed port)
    ]
  where
    kept : (n : News) → filter p (filter (λ t. not (overrides t n)) table) ≡ filter p
        (filter (λ t. not (overrides t n)) (filter p table))
    kept n =
        filter-twice p (λ t. not (overrides t n)) (λ t. not (overrides t n) && p t) (λ t. refl) table
        ∙ sym (filter-twice (λ t. not (overrides t n) && p t) p (λ t. not (overrides t n) && p t)
        (λ t. and-twice (p t) (not (overrides t n))) table)
        ∙ sym (filter-twice p (λ t. not (overrides t n)) (λ t. not (overrides t n) && p t) (λ t. refl) (filter p table))

-- the table after one more event
after_all-more : (table : List Sighting) (news : List News) (n : News)
    → after_all table (news ++ n ∷ []) ≡ after (after_all table news) n
after_all-more table [] n = refl
after_all-more table (m ∷ news) n = after_all-more (after table m) news n

-- a table of the sightings in force remains one after one more event
pub stands-more : (ageing now : ℕ) (table : List Sighting) (news : List News) (n : News)
    → filter (is_fresh ageing now) table ≡ standing ageing now news
    → filter (is_fresh ageing now) (after table n) ≡ standing ageing now (news ++ n ∷ [])
stands-more ageing now table news n h =
    passed-after (is_fresh ageing now) table n
    ∙ ap (λ zs. filter (is_fresh ageing now) (after zs n)) (h ∙ sym (table_tells_what_stands ageing now news))
    ∙ sym (passed-after (is_fresh ageing now) (after_all [] news) n)
    ∙ ap (filter (is_fresh ageing now)) (sym (after_all-more [] news n))
    ∙ table_tells_what_stands ageing now (news ++ n ∷ [])

-- a sighting that is fresh later is fresh at each moment before
fresh_before : (ageing now later moment : ℕ) → now ≤ later
    → (nat_lt (now - moment) ageing && nat_lt (later - moment) ageing) ≡ nat_lt (later - moment) ageing
fresh_before ageing now later moment h =
    elim (nat_lt (later - moment) ageing) as
    (λ b. nat_lt (later - moment) ageing ≡ b → (nat_lt (now - moment) ageing && b) ≡ b) [
      | true ↦ λ e. let l : now - moment < ageing = less e in grind (arith, nat_tests)
      | false ↦ λ e. and_comm (nat_lt (now - moment) ageing) false
    ] refl
  where
    less : nat_lt (later - moment) ageing ≡ true → now - moment < ageing
    less e = let l : later - moment < ageing = grind (arith, nat_tests) in omega arith

-- dropping aged sightings changes no later set of live sightings
pub live-dropped : (ageing now later : ℕ) (table : List Sighting) → now ≤ later
    → filter (is_fresh ageing later) (filter (is_fresh ageing now) table) ≡ filter (is_fresh ageing later) table
live-dropped ageing now later table h = filter-twice (is_fresh ageing later) (is_fresh ageing now)
    (is_fresh ageing later) (λ s. fresh_before ageing now later s.moment h) table

-- freeing space changes no later set of live sightings
pub live-with_room : (table : Table) (now later : ℕ) → now ≤ later
    → filter (is_fresh table.ageing later) (with_room table now) ≡ live table later
live-with_room table now later h =
    elim (nat_le table.limit (length table.sightings)) as
    (λ b. filter (is_fresh table.ageing later) (cond b (live table now) table.sightings) ≡ live table later)
    [ true ↦ live-dropped table.ageing now later table.sightings h | false ↦ refl ]

-- an operation preserves `TellsWhatStands`
pub done-tells : (table : Table) (news : List News) (d : Deed) → IsInTime table d → TellsWhatStands table news
    → TellsWhatStands (done table d) (news ++ news_of d)
done-tells table news (Flushes port) t h now l = stands-more table.ageing now table.sightings news (Flushed port)
    (h now l)
done-tells table news (Expires moment) t h now l =
    live-dropped table.ageing moment now table.sightings l ∙ h now (omega arith)
    ∙ ap (standing table.ageing now) (sym (append-nil news))
done-tells table news (Learns s New) t h now l =
    stands-more table.ageing now (with_room table s.moment) news (Seen s)
    (live-with_room table s.moment now l ∙ h now (omega arith))
done-tells table news (Learns s Kept) t h now l = stands-more table.ageing now table.sightings news (Seen s)
    (h now (omega arith))
done-tells table news (Learns s Moved) t h now l = stands-more table.ageing now table.sightings news (Seen s)
    (h now (omega arith))
done-tells table news (Learns s Full) t h now l = h now (omega arith)
    ∙ ap (standing table.ageing now) (sym (append-nil news))
done-tells table news (Learns s Group) t h now l = h now (omega arith)
    ∙ ap (standing table.ageing now) (sym (append-nil news))
done-tells table news (Learns s Memory) t h now l = h now (omega arith)
    ∙ ap (standing table.ageing now) (sym (append-nil news))

-- any number of operations preserve `TellsWhatStands`
from-table : (table : Table) (earlier : List News) (deeds : List Deed) (last : Table) (news : List News)
    → TellsWhatStands table earlier → Leads table deeds last news → TellsWhatStands last (earlier ++ news)
from-table table earlier [] last news h l = rw (l.0, l.1, append-nil) h
from-table table earlier (d ∷ deeds) last news h l =
    rw (l.1.2) (rw (← append_assoc earlier (news_of d) l.1.0)
    (from-table (done table d) (earlier ++ news_of d) deeds last l.1.0 (done-tells table earlier d l.0 h) l.1.1))

-- the law, from the empty table
pub tables_tell_what_stands : TablesTellWhatStands
tables_tell_what_stands limit ageing deeds table news l = from-table _ [] deeds table news (λ now t. refl) l
