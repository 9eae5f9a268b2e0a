-- How the learning table changes.
use Rattle.std.specs.Prelude.{◌≡◌, ◌≤◌, ℕ, List, [], ◌∷◌, ◌++◌, not, length, nat_le, Some, if◌then◌else◌}
use Rattle.std.specs.List.{filter}
use Rattle.pb_frame.specs.Frames.{is_group}
use Rattle.pb_frame.specs.declared.learnt.Learnt.{Learnt}
use Rattle.pb_lan.specs.Choice.{is_noted, table_limit}
use Rattle.pb_frame.specs.Stations.{Sighting, is_sighted, live, where_in, IsLearnt}
use Rattle.pb_fdb.specs.Tables.{Table, sighting_at}
use Rattle.pb_lan.specs.declared.plan.Plan.{Plan}

-- the table after a station is seen: its older entries are removed, and the new one is the last
abbrev pub seen_anew : Sighting → List Sighting → List Sighting
seen_anew s table = filter (λ t. not (is_sighted s.vid s.mac t)) table ++ s ∷ []

-- the table was given a station that is seen at a port, changed and reported what it did
pub record HasLearnt (ageing now vid port : ℕ) (mac : List ℕ) (old : List Sighting) (learnt : Learnt) (new : List Sighting) : Type 0 where
  pub answer : IsLearnt (is_group mac) (where_in ageing now vid mac old) (nat_le table_limit (length (live ageing now old))) port learnt
  pub table : live ageing now new ≡ (if is_noted (Some learnt) then seen_anew (sighting_at vid mac port now) (live ageing now old) else live ageing now old)

-- the table has the limit and the ageing time of a bridge of the plan, and its clock is not ahead of the bridge's
pub record IsTableOf (plan : Plan) (now : ℕ) (table : Table) : Type 0 where
  pub limit : table.limit ≡ table_limit
  pub ageing : table.ageing ≡ plan.ageing
  pub in_time : table.clock ≤ now
