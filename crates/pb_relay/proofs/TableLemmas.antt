-- The learning table.
use Rattle.std.proofs.Common.{◌≡◌, ℕ, ◌+◌, ◌-◌, ◌<◌, Bool, true, false, cond, not, nat_le, Some, List, [], ◌∷◌}
use Rattle.std.proofs.Common.{◌++◌, length, refl, sym, ap, ◌∙◌, subst, arith}
use Rattle.std.proofs.lemmas.Bool.Decides.{nat_tests}
use Rattle.std.specs.List.{filter}
use Rattle.pb_fdb.proofs.EntryLemmas.{overrides-is_sighted}
use Rattle.pb_fdb.proofs.LawLemmas.{live-with_room, live-dropped}
use Rattle.pb_fdb.specs.Tables.{Table, sighting_at, where_in, is_full, with_room, learnt_sightings, learnt_table}
use Rattle.pb_fdb.specs.Tables.{expired, flushed}
use Rattle.pb_frame.proofs.Lists.{filter-append, filter-same, filter-swap}
use Rattle.pb_frame.specs.Frames.{is_group}
use Rattle.pb_frame.specs.Stations.News.{Seen}
use Rattle.pb_frame.specs.Stations.{after, overrides, Sighting, is_sighted, is_fresh, IsLearnt, live}
use Rattle.pb_frame.specs.Stations.{where_in as list_where}
use Rattle.pb_frame.specs.declared.learnt.Learnt.{Learnt}
use Rattle.pb_frame.specs.declared.learnt.Learnt.TheVariants.{New, Kept, Moved}
use Rattle.pb_lan.specs.Choice.{is_noted}
use Rattle.pb_lan.specs.declared.plan.Plan.{Plan}
use Rattle.pb_relay.specs.Tables.{seen_anew, HasLearnt, IsTableOf}

-- an entry that is made at this moment is fresh
pub fresh_now : (ageing now vid port : ℕ) (mac : List ℕ) → 0 < ageing
    → is_fresh ageing now (sighting_at vid mac port now) ≡ true
fresh_now ageing now vid port mac h =
    let z : now - now ≡ 0 = omega arith in
    rw z (grind (arith, nat_tests))

-- the live entries after a station is seen
live_after : (ageing now : ℕ) (s : Sighting) (table : List Sighting) → is_fresh ageing now s ≡ true
    → live ageing now (filter (λ t. not (is_sighted s.vid s.mac t)) table ++ s ∷ []) ≡ seen_anew s
    (live ageing now table)
live_after ageing now s table f =
    filter-append (is_fresh ageing now) (filter (λ t. not (is_sighted s.vid s.mac t)) table) (s ∷ [])
    ∙ ap (λ b. live ageing now (filter (λ t. not (is_sighted s.vid s.mac t)) table) ++ cond b (s ∷ []) []) f
    ∙ ap (λ zs. zs ++ s ∷ []) (filter-swap (is_fresh ageing now) (λ t. not (is_sighted s.vid s.mac t)) table)

-- a table after a station is seen, as news
after_seen : (s : Sighting) (table : List Sighting) → after table (Seen s) ≡ seen_anew s table
after_seen s table =
    ap (λ zs. zs ++ s ∷ [])
    (filter-same (λ t. not (overrides t (Seen s))) (λ t. not (is_sighted s.vid s.mac t))
    (λ t. ap not (overrides-is_sighted s t)) table)

-- the live entries after a station is seen, as news
pub seen_live : (ageing now : ℕ) (s : Sighting) (table : List Sighting) → is_fresh ageing now s ≡ true
    → live ageing now (after table (Seen s)) ≡ seen_anew s (live ageing now table)
seen_live ageing now s table f = ap (live ageing now) (after_seen s table) ∙ live_after ageing now s table f

-- the live entries after the table was given a station
live_learnt : (old : Table) (s : Sighting) (learnt : Learnt) → is_fresh old.ageing s.moment s ≡ true
    → live old.ageing s.moment (learnt_sightings old s learnt) ≡ cond (is_noted (Some learnt))
    (seen_anew s (live old.ageing s.moment old.sightings)) (live old.ageing s.moment old.sightings)
live_learnt old s New f =
    seen_live old.ageing s.moment s (with_room old s.moment) f
    ∙ ap (seen_anew s) (live-with_room old s.moment s.moment (omega arith))
live_learnt old s Kept f = seen_live old.ageing s.moment s old.sightings f
live_learnt old s Moved f = seen_live old.ageing s.moment s old.sightings f
live_learnt old s _ f = refl

-- a table that was given a station, and reported what it did
pub has_learnt : (plan : Plan) (now vid port : ℕ) (mac : List ℕ) (old new : Table) (learnt : Learnt) → 0 < plan.ageing
    → IsTableOf plan now old
    → IsLearnt (is_group mac) (where_in old now vid mac) (is_full old now) port learnt
    → new ≡ learnt_table old (sighting_at vid mac port now) learnt
    → HasLearnt plan.ageing now vid port mac old.sightings learnt new.sightings
has_learnt plan now vid port mac old new learnt h t a e =
    subst (λ (ageing : ℕ). HasLearnt ageing now vid port mac old.sightings learnt new.sightings) t.ageing (record {
      answer = subst (λ (limit : ℕ). IsLearnt (is_group mac) (where_in old now vid mac)
          (nat_le limit (length (live old.ageing now old.sightings))) port learnt) t.limit a;
      table = ap (λ (z : Table). live old.ageing now z.sightings) e
          ∙ live_learnt old (sighting_at vid mac port now) learnt
          (fresh_now old.ageing now vid port mac (subst (λ (n : ℕ). 0 < n) (sym t.ageing) h));
    })

-- a table that was given a station is still one of the bridge
pub table_learnt : (plan : Plan) (now : ℕ) (old new : Table) (s : Sighting) (learnt : Learnt) → IsTableOf plan now old
    → s.moment ≡ now → new ≡ learnt_table old s learnt → IsTableOf plan now new
table_learnt plan now old new s learnt t m e =
    rw e (record { limit = t.limit; ageing = t.ageing; in_time = rw m (omega arith) })

-- the port at which the table has a station is the one in its list of entries
pub found_in : (plan : Plan) (now vid : ℕ) (mac : List ℕ) (old : Table) → old.ageing ≡ plan.ageing
    → where_in old now vid mac ≡ list_where plan.ageing now vid mac old.sightings
found_in plan now vid mac old e = ap (λ ageing. list_where ageing now vid mac old.sightings) e

-- a table without its expired entries is still one of the bridge, one tick later
pub table_expired : (plan : Plan) (now : ℕ) (old : Table) → IsTableOf plan now old
    → IsTableOf plan (now + 1) (expired old (now + 1))
table_expired plan now old t = record { limit = t.limit; ageing = t.ageing; in_time = omega arith }

pub live_expired : (plan : Plan) (now : ℕ) (old : Table) → IsTableOf plan now old
    → live plan.ageing (now + 1) (expired old (now + 1)).sightings ≡ live plan.ageing (now + 1) old.sightings
live_expired plan now old t =
    rw (sym t.ageing) (live-dropped old.ageing (now + 1) (now + 1) old.sightings (omega arith))

-- a table of which a port was flushed, or not, is still one of the bridge
pub table_flushed_or : (plan : Plan) (now port : ℕ) (up : Bool) (old : Table) → IsTableOf plan now old
    → IsTableOf plan now (cond up old (flushed old port))
table_flushed_or plan now port true old t = t
table_flushed_or plan now port false old t = record { limit = t.limit; ageing = t.ageing; in_time = t.in_time }
